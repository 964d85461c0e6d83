-- Among which verbs a token is sought.
use Rattle.std.proofs.Common.{◌≡◌, ◌==◌, ℕ, Bool, true, false, cond, ◌&&◌, nat_le, nat_lt, find, filter, get_or, List, [], ◌∷◌, length, take, Option, Some, refl, sym, ap, ◌∙◌}
use Rattle.std.specs.Char.{to_ascii_uppercase}
use Rattle.qm_commands.specs.declared.tokens.token.Token.{Token}
use Rattle.qm_commands.specs.declared.table.Verb.{Verb}
use Rattle.qm_grammar.specs.Finding.{verb_of}
use Rattle.qm_commands.specs.Names.{is_verb, is_verb_alone}
use Rattle.qm_commands.specs.Spelled.{is_word, bytes_of, is_raised_to}
use Rattle.qm_commands.specs.Table.{verbs}
use Rattle.qm_commands.specs.Words.{verb_spelling}
use Rattle.qm_commands.proofs.NameLemmas.{unbegun}

module _ {X : Type 0} (p q : X → Bool) where
  found_or_not : (x : X) (xs : List X) (b : Bool) → q x ≡ b → (q x ≡ false → p x ≡ false) → find p (filter q xs) ≡ find p xs
      → find p (cond b (x ∷ filter q xs) (filter q xs)) ≡ find p (x ∷ xs)
  found_or_not x xs true is fails rest = ap (λ (o : Option X). cond (p x) (Some x) o) rest
  found_or_not x xs false is fails rest = rest ∙ sym (ap (λ b. cond b (Some x) (find p xs)) (fails is))

  -- the same is found among those that pass a test, where none that fails it is sought
  found_among : ((x : X) → q x ≡ false → p x ≡ false) → (xs : List X) → find p (filter q xs) ≡ find p xs
  found_among fails [] = refl
  found_among fails (x ∷ xs) = found_or_not x xs (q x) refl (fails x) (found_among fails xs)

denied_first : (a b : Bool) → a ≡ false → (a && b) ≡ false
denied_first a b h = ap (λ x. x && b) h

denied_second : (a b : Bool) → b ≡ false → (a && b) ≡ false
denied_second true b h = h
denied_second false b h = refl

-- a name whose second letter is another doesn't begin with a word
unlike : (word name : List ℕ) (second : ℕ) → true ≡ nat_lt 1 (length word) → second ≡ get_or word 1 0 → (to_ascii_uppercase second == get_or name 1 0) ≡ false
    → is_raised_to (take (length word) name) word ≡ false
unlike [] name second long at other = absurd cc
unlike (a ∷ []) name second long at other = absurd cc
unlike (a ∷ b ∷ rest) [] second long at other = refl
unlike (a ∷ b ∷ rest) (s ∷ []) second long at other = denied_second (to_ascii_uppercase a == s) false refl
unlike (a ∷ b ∷ rest) (s ∷ t ∷ name) second long at other =
    denied_second (to_ascii_uppercase a == s) _ (denied_first (to_ascii_uppercase b == t) _ (sym (ap (λ x. to_ascii_uppercase x == t) at) ∙ other))

module _ (text : List ℕ) (token : Token) (second raised : ℕ) where
  abbrev word : List ℕ
  word = bytes_of text token

  abbrev has_it : Verb → Bool
  has_it verb = raised == get_or (verb_spelling verb) 1 0

  unmeant : true ≡ nat_lt 1 (length word) → second ≡ get_or word 1 0 → raised ≡ to_ascii_uppercase second
      → (verb : Verb) → has_it verb ≡ false → is_verb text token verb ≡ false
  unmeant long at up verb other =
      let name = verb_spelling verb in
      unbegun text token name (is_verb_alone text token name)
      (denied_second (is_word token.kind && nat_le (length word) (length name)) _
      (unlike word name second long at (sym (ap (λ x. x == get_or name 1 0) up) ∙ other)))

  -- a token whose second letter is raised to this one is sought among the verbs that have it
  pub found_by : true ≡ nat_lt 1 (length word) → second ≡ get_or word 1 0 → raised ≡ to_ascii_uppercase second
      → find (is_verb text token) (filter has_it verbs) ≡ verb_of text token
  found_by long at up = found_among (is_verb text token) has_it (unmeant long at up) verbs
