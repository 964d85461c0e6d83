-- What is asked is a command, and no fault is told behind the first.
use Rattle.std.proofs.Common.{◌≡◌, ◌≤◌, ℕ, nat_lt, Bool, true, false, cond, List, Option, None, Some, Result, Ok, Err, IsOk, IfOk, refl, sym, ap, subst, arith}
use Rattle.std.proofs.lemmas.Bool.Decides.{nat_tests}
use Rattle.qm_kinds.specs.declared.input.Input.{Input}
use Rattle.qm_commands.specs.declared.fault.Fault.{Fault}
use Rattle.qm_commands.specs.declared.table.Command.{Command}
use Rattle.qm_grammar.specs.Finding.{named_command}
use Rattle.qm_grammar.specs.Parsed.{tokens_in, parts_in, command_in}
use Rattle.qm_dcl.specs.declared.lists.Lists.{Lists}
use Rattle.qm_dcl.specs.declared.settings.Settings.{Settings}
use Rattle.qm_dcl.specs.Settings.{settings_of}
use Rattle.qm_dcl.specs.Lists.{lists_of, nodes_of}
use Rattle.qm_dcl.specs.Command.{not_built, judged, asked_with, meant, unnamed, command_named, command_of}

whatever : (P : Type 0) → P → (r : Result Input Fault) → IfOk r (λ _. P)
whatever P p (Ok input) = p
whatever P p (Err f) = tt

abbrev told : Fault → Result Input Fault
told f = Err f

abbrev wrong : Fault → Result Command Fault
wrong f = Err f

abbrev lawful : Command → Result Command Fault
lawful c = Ok c

same_told : (f g : Fault) → told f ≡ told g → f ≡ g
same_told f g h = cc

same_wrong : (f g : Fault) → wrong f ≡ wrong g → f ≡ g
same_wrong f g h = cc

not_wrong : (c : Command) (f : Fault) (read : Result Command Fault) → read ≡ Ok c → read ≡ wrong f → ⊥
not_wrong c f read a b = cc

module _ (user : List ℕ) (c : Command) (lists : Lists) (nodes : Option (List (List ℕ))) where
  -- one of two faults
  one_told : (P : Type 0) (b : Bool) (f g : Fault) → IfOk (asked_with user c lists nodes (cond b (Err f) (Err g))) (λ _. P)
  one_told P true f g = tt
  one_told P false f g = tt

  right : (read : Result Command Fault) (given : Result Settings Fault) → IfOk (asked_with user c lists nodes (judged read given)) (λ _. IsOk read)
  right (Ok command) given = whatever (IsOk (lawful command)) refl (asked_with user c lists nodes given)
  right (Err f) (Ok s) = tt
  right (Err f) (Err value) = one_told (IsOk (wrong f)) (nat_lt value.place f.place) value f

  earlier : (b : Bool) (value f g : Fault) → nat_lt value.place f.place ≡ b → asked_with user c lists nodes (cond b (Err value) (Err f)) ≡ told g → g.place ≤ f.place
  earlier true value f g lt is = let same = same_told value g is in grind (arith, nat_tests)
  earlier false value f g lt is = let same = same_told f g is in grind (arith, nat_tests)

  first : (read : Result Command Fault) (given : Result Settings Fault) (f g : Fault) → read ≡ wrong f → asked_with user c lists nodes (judged read given) ≡ told g → g.place ≤ f.place
  first (Ok command) given f g wrong is = absurd (not_wrong command f (Ok command) refl wrong)
  first (Err e) (Ok s) f g wrong is = let a = same_wrong e f wrong in let b = same_told e g is in grind (arith, nat_tests)
  first (Err e) (Err value) f g wrong is =
      let a = same_wrong e f wrong in
      let P : Fault → Type 0 = λ x. g.place ≤ x.place in
      subst P a (earlier (nat_lt value.place e.place) value e g refl is)

module _ (user : List ℕ) (now : ℕ) (text : List ℕ) where
  right_meant : (c : Command) → IfOk (meant user now text c) (λ _. IsOk (command_in text))
  right_meant c = right user c (lists_of text (parts_in text)) (nodes_of text (parts_in text)) (command_in text) (settings_of now text c (parts_in text))

  right_unnamed : (P : Type 0) (read : Result Command Fault) → IfOk (unnamed read) (λ _. P)
  right_unnamed P (Ok c) = tt
  right_unnamed P (Err f) = tt

  right_named : (named : Option Command) → IfOk (command_named user now text named) (λ _. IsOk (command_in text))
  right_named None = right_unnamed (IsOk (command_in text)) (command_in text)
  right_named (Some c) = right_meant c

  -- only a command of the grammar asks for something
  pub is_command : IfOk (command_of user now text) (λ _. IsOk (command_in text))
  is_command = right_named (named_command text (tokens_in text))

  not_behind : (f g : Fault) → told not_built ≡ told g → g.place ≤ f.place
  not_behind f g is = let same = same_told not_built g is in let at : g.place ≡ 0 = ap (λ (x : Fault). x.place) (sym same) in omega (arith, at)

  first_meant : (c : Command) (f g : Fault) → command_in text ≡ wrong f → meant user now text c ≡ told g → g.place ≤ f.place
  first_meant c f g wrong is = first user c (lists_of text (parts_in text)) (nodes_of text (parts_in text)) (command_in text) (settings_of now text c (parts_in text)) f g wrong is

  first_unnamed : (read : Result Command Fault) (f g : Fault) → read ≡ wrong f → unnamed read ≡ told g → g.place ≤ f.place
  first_unnamed (Ok c) f g wrong is = not_behind f g is
  first_unnamed (Err e) f g wrong is = let a = same_wrong e f wrong in let b = same_told e g is in grind (arith, nat_tests)

  first_named : (named : Option Command) (f g : Fault) → command_in text ≡ wrong f → command_named user now text named ≡ told g → g.place ≤ f.place
  first_named None f g wrong is = first_unnamed (command_in text) f g wrong is
  first_named (Some c) f g wrong is = first_meant c f g wrong is

  -- no fault is told behind the first one of the grammar
  pub is_first : (f g : Fault) → command_in text ≡ wrong f → command_of user now text ≡ told g → g.place ≤ f.place
  is_first f g wrong is = first_named (named_command text (tokens_in text)) f g wrong is
