-- What holds of what the parts of a command give, one after the other.
use Rattle.std.proofs.Common.{◌≡◌, ℕ, Bool, true, false, cond, ◌&&◌, not, List, [], ◌∷◌, Option, None, Some, Result, Ok, Err, IfOk, IfSome, refl, option_map}
use Rattle.qm_model.specs.Common.{JobRetain, Until, QueueRetain}
use Rattle.qm_commands.specs.declared.tokens.token.Token.{Token}
use Rattle.qm_commands.specs.declared.fault.Fault.{Fault}
use Rattle.qm_grammar.specs.declared.part.Part.{Part}
use Rattle.qm_grammar.specs.declared.part.Part.TheVariants.{Parameter, Qualifier, Value, KeyValue}
use Rattle.qm_commands.specs.declared.table.Command.{Command}
use Rattle.qm_commands.specs.declared.word.Word.{Word}
use Rattle.qm_commands.specs.declared.word.Word.TheVariants as words
use Rattle.qm_dcl.specs.declared.settings.Settings.{Settings}
use Rattle.qm_dcl.specs.declared.value.Side.{Side}
use Rattle.qm_dcl.specs.Values.{said_by, raised_by, byte_said, node_said, says_all, has_equals, schedule_said, queue_retain_said, job_retain_said, is_until, side_said, moment_said}
use Rattle.qm_dcl.specs.Forms.{with_margin}
use Rattle.qm_dcl.specs.Given.{with_word, with_job, with_queue_settings, with_shape, valued, nodes_begun, node_given, schedule_given, queue_retain_given, with_retain, until_given, after_given, margin_given, parametered}
use Rattle.qm_dcl.specs.Settings.{nothing_given, or_value_fault, with_parameter, with_key, with_until, with_retain_word, with_job_retain, is_of_queue, with_value, inner_value, has_value_ahead, lists_nodes, with_value_of, on_settings, settings_from, settings_of}

-- what the qualifiers and the values of parts leave, one after the other
abbrev pub folded : {I : Type 0} → (Word → I → I) → (I → I) → I → List Part → I
folded marks fills i [] = i
folded marks fills i (Parameter token ∷ parts) = folded marks fills i parts
folded marks fills i (Qualifier word place ∷ parts) = folded marks fills (marks word i) parts
folded marks fills i (Value token ∷ parts) = folded marks fills (fills i) parts
folded marks fills i (KeyValue token ∷ parts) = folded marks fills i parts

-- each qualifier is one of these, and each value is so with what stands behind it
abbrev pub AreAll : (Word → Type 0) → (Token → List Part → Type 0) → List Part → Type 0
AreAll allowed keyed [] = Unit {0}
AreAll allowed keyed (Parameter token ∷ parts) = AreAll allowed keyed parts
AreAll allowed keyed (Qualifier word place ∷ parts) = allowed word × AreAll allowed keyed parts
AreAll allowed keyed (Value token ∷ parts) = keyed token parts × AreAll allowed keyed parts
AreAll allowed keyed (KeyValue token ∷ parts) = AreAll allowed keyed parts

-- Each part keeps what holds of what is given, where the parts are so. It holds with something beside it, which qualifiers and
-- values change.
pub record IsKept (text : List ℕ) (c : Command) (I : Type 0) (marks : Word → I → I) (fills : I → I) (allowed : Word → Type 0) (keyed : Token → List Part → Type 0)
    (P : I → Settings → Type 0) : Type 0 where
  pub object : (i : I) (s : Settings) → P i s → P i (record s { awaits_object = false })
  pub node : (i : I) (s : Settings) → lists_nodes c s.word ≡ true → P i s → P (fills i) (record s { has_node = true })
  pub word : (i : I) (s : Settings) (word : Word) → allowed word → P i s → P (marks word i) (with_word s word)
  pub parameter : (i : I) (s : Settings) (said : List ℕ) → P i s → IfSome (parametered s c said) (P i)
  pub value : (i : I) (s : Settings) (word : Option Word) (said : List ℕ) → word ≡ s.word → P i s → IfSome (valued s word said) (P (fills i))
  pub margin : (i : I) (s : Settings) (side : Side) (margin : ℕ) → Some words.Margin ≡ s.word → P i s → P (fills i) (with_shape s (with_margin s.definition.shape side margin))
  pub schedule : (i : I) (s : Settings) (by_size : Bool) → Some words.Schedule ≡ s.word → P i s → P (fills i) (with_queue_settings s (record s.queue_settings { by_size = Some by_size }))
  pub queue_retain : (i : I) (s : Settings) (retain : QueueRetain) → Some words.Retain ≡ s.word → is_of_queue c ≡ true → P i s
      → P (fills i) (with_queue_settings s (record s.queue_settings { retain = Some retain }))
  pub retain : (i : I) (s : Settings) (retain : JobRetain) → Some words.Retain ≡ s.word → is_of_queue c ≡ false → P i s → P (fills i) (with_retain s retain)
  pub after : (i : I) (s : Settings) (at : ℕ) → Some words.After ≡ s.word → P i s → P (fills i) (with_job s (record s.job { after = Some (Some at) }))
  -- a value behind which an = stands, and nothing behind that
  pub skipped : (i : I) (s : Settings) (token : Token) (behind : List Part) → keyed token behind → has_equals text token ≡ true → inner_value behind ≡ None → P i s
      → P (fills i) s

module _ (now : ℕ) (text : List ℕ) (c : Command) (I : Type 0) (marks : Word → I → I) (fills : I → I) (allowed : Word → Type 0) (keyed : Token → List Part → Type 0)
    (P : I → Settings → Type 0) (kept : IsKept text c I marks fills allowed keyed P) where
  each : {X : Type 0} (give : X → Settings) (i : I) (given : Option X) → ((x : X) → P i (give x)) → IfSome (option_map give given) (P i)
  each give i None keeps = tt
  each give i (Some x) keeps = keeps x

  or_fault : (token : Token) (i : I) (given : Option Settings) → IfSome given (P i) → IfOk (or_value_fault token given) (P i)
  or_fault token i None keeps = tt
  or_fault token i (Some s) keeps = keeps

  parameter_kept : (i : I) (s : Settings) (token : Token) (awaits : Bool) → P i s
      → IfOk (cond awaits (Ok (record s { awaits_object = false })) (or_value_fault token (parametered s c (said_by text token)))) (P i)
  parameter_kept i s token true p = kept.object i s p
  parameter_kept i s token false p = or_fault token i (parametered s c (said_by text token)) (kept.parameter i s (said_by text token) p)

  module _ (i : I) (s : Settings) (token : Token) (behind : List Part) (is_keyed : keyed token behind) (p : P i s) where
    equals_kept : (equals : Bool) → has_equals text token ≡ equals → inner_value behind ≡ None → IfOk (cond equals (Ok s) (or_value_fault token None)) (P (fills i))
    equals_kept true is none = kept.skipped i s token behind is_keyed is none p
    equals_kept false is none = tt

    key_kept : (side : Option Side) (inner : Option Token) → Some words.Margin ≡ s.word → inner_value behind ≡ inner → IfOk (with_key text s token side inner) (P (fills i))
    key_kept None inner word is = tt
    key_kept (Some side) None word is = equals_kept (has_equals text token) refl is
    key_kept (Some side) (Some number) word is =
        or_fault number (fills i) (margin_given s side (said_by text number))
        (each (λ margin. with_shape s (with_margin s.definition.shape side margin)) (fills i) (byte_said (said_by text number)) (λ margin. kept.margin i s side margin word p))

    until_kept : (inner : Option Token) → inner_value behind ≡ inner → Some words.Retain ≡ s.word → is_of_queue c ≡ false → IfOk (with_until now text s token inner) (P (fills i))
    until_kept None is word job = equals_kept (has_equals text token) refl is
    until_kept (Some time) is word job =
        or_fault time (fills i) (until_given s (moment_said now (raised_by text time)))
        (each (λ at. with_retain s (Until at)) (fills i) (moment_said now (raised_by text time)) (λ at. kept.retain i s (Until at) word job p))

    retain_word_kept : (retain : Option JobRetain) (inner : Option Token) → Some words.Retain ≡ s.word → is_of_queue c ≡ false → IfOk (with_retain_word s token retain inner) (P (fills i))
    retain_word_kept None inner word job = tt
    retain_word_kept (Some retain) None word job = kept.retain i s retain word job p
    retain_word_kept (Some retain) (Some value) word job = tt

    job_retain_kept : (raised : List ℕ) (until : Bool) → Some words.Retain ≡ s.word → is_of_queue c ≡ false
        → IfOk (cond until (with_until now text s token (inner_value behind)) (with_retain_word s token (job_retain_said raised) (inner_value behind))) (P (fills i))
    job_retain_kept raised true word job = until_kept (inner_value behind) refl word job
    job_retain_kept raised false word job = retain_word_kept (job_retain_said raised) (inner_value behind) word job

    retained_kept : (raised : List ℕ) (queue : Bool) → Some words.Retain ≡ s.word → is_of_queue c ≡ queue
        → IfOk (cond queue (or_value_fault token (queue_retain_given s raised)) (with_job_retain now text s token raised (inner_value behind))) (P (fills i))
    retained_kept raised true word is =
        or_fault token (fills i) (queue_retain_given s raised)
        (each (λ retain. with_queue_settings s (record s.queue_settings { retain = Some retain })) (fills i) (queue_retain_said raised) (λ retain. kept.queue_retain i s retain word is p))
    retained_kept raised false word is = job_retain_kept raised (is_until raised) word is

    value_kept : (word : Option Word) → word ≡ s.word → IfOk (with_value now text c s word token (inner_value behind)) (P (fills i))
    value_kept (Some words.Margin) is = key_kept (side_said (raised_by text token)) (inner_value behind) is refl
    value_kept (Some words.Schedule) is =
        or_fault token (fills i) (schedule_given s (raised_by text token))
        (each (λ by_size. with_queue_settings s (record s.queue_settings { by_size = Some by_size })) (fills i) (schedule_said (raised_by text token)) (λ by_size. kept.schedule i s by_size is p))
    value_kept (Some words.After) is =
        or_fault token (fills i) (after_given s (moment_said now (raised_by text token)))
        (each (λ at. with_job s (record s.job { after = Some (Some at) })) (fills i) (moment_said now (raised_by text token)) (λ at. kept.after i s at is p))
    value_kept (Some words.Retain) is = retained_kept (raised_by text token) (is_of_queue c) is refl
    value_kept word is = or_fault token (fills i) (valued s word (said_by text token)) (kept.value i s word (said_by text token) is p)

    begun_kept : (alone : Bool) → lists_nodes c s.word ≡ true → IfSome (cond alone (Some (record s { has_node = true })) None) (P (fills i))
    begun_kept true nodes = kept.node i s nodes p
    begun_kept false nodes = tt

    node_kept : (alone all : Bool) (said : List ℕ) → lists_nodes c s.word ≡ true
        → IfSome (cond all (nodes_begun s alone) (option_map (λ node. record s { has_node = true }) (node_said said))) (P (fills i))
    node_kept alone true said nodes = begun_kept (alone && not s.has_node) nodes
    node_kept alone false said nodes = each (λ node. record s { has_node = true }) (fills i) (node_said said) (λ node. kept.node i s nodes p)

    value_of_kept : (nodes : Bool) → lists_nodes c s.word ≡ nodes
        → IfOk (cond nodes (or_value_fault token (node_given s (not (has_value_ahead behind)) (said_by text token))) (with_value now text c s s.word token (inner_value behind))) (P (fills i))
    value_of_kept true nodes =
        or_fault token (fills i) (node_given s (not (has_value_ahead behind)) (said_by text token))
        (node_kept (not (has_value_ahead behind)) (says_all (said_by text token)) (said_by text token) nodes)
    value_of_kept false nodes = value_kept s.word refl

  then_kept : (i : I) (given : Result Settings Fault) (go_on : Settings → Result Settings Fault) (Q : Settings → Type 0) → IfOk given (P i)
      → ((s : Settings) → P i s → IfOk (go_on s) Q) → IfOk (on_settings given go_on) Q
  then_kept i (Ok s) go_on Q p next = next s p
  then_kept i (Err f) go_on Q p next = tt

  pub from : (parts : List Part) (i : I) (s : Settings) → AreAll allowed keyed parts → P i s → IfOk (settings_from now text c s parts) (P (folded marks fills i parts))
  from [] i s all p = p
  from (Parameter token ∷ parts) i s all p =
      then_kept i (with_parameter text c s token) (λ t. settings_from now text c t parts) (P (folded marks fills i parts))
      (parameter_kept i s token s.awaits_object p) (λ t q. from parts i t all q)
  from (Qualifier word place ∷ parts) i s all p = from parts (marks word i) (with_word s word) all.1 (kept.word i s word all.0 p)
  from (Value token ∷ parts) i s all p =
      then_kept (fills i) (with_value_of now text c s token parts) (λ t. settings_from now text c t parts) (P (folded marks fills (fills i) parts))
      (value_of_kept i s token parts all.0 p (lists_nodes c s.word) refl) (λ t q. from parts (fills i) t all.1 q)
  from (KeyValue token ∷ parts) i s all p = from parts i s all p

  -- all parts keep what holds where nothing is given
  pub holds : (parts : List Part) (i : I) → AreAll allowed keyed parts → P i (nothing_given c) → IfOk (settings_of now text c parts) (P (folded marks fills i parts))
  holds parts i all p = from parts i (nothing_given c) all p
