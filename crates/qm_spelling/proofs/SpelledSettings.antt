-- What the parts of a command give, by what they say.
use Rattle.std.proofs.Common.{◌≡◌, ℕ, List, [], ◌∷◌, map, Option, None, Some, Bool, true, false, not, if◌then◌else◌, Result, Ok, refl, ap, ◌∙◌, option_and_then, ok_or}
use Rattle.std.specs.Char.{to_ascii_uppercase}
use Rattle.qm_kinds.specs.declared.entry.JobRetain.{JobRetain}
use Rattle.qm_kinds.specs.declared.refusal.ParseKind.TheVariants as fault
use Rattle.qm_commands.specs.declared.tokens.token.Token.{Token}
use Rattle.qm_commands.specs.declared.fault.Fault.{Fault}
use Rattle.qm_grammar.specs.declared.part.Part.{Part}
use Rattle.qm_grammar.specs.declared.part.Part.TheVariants as parts
use Rattle.qm_commands.specs.declared.table.Command.{Command}
use Rattle.qm_commands.specs.declared.word.Word.{Word}
use Rattle.qm_commands.specs.declared.word.Word.TheVariants as words
use Rattle.qm_commands.specs.Spelled.{bytes_of}
use Rattle.qm_dcl.specs.declared.settings.Settings.{Settings}
use Rattle.qm_dcl.specs.declared.value.Side.{Side}
use Rattle.qm_dcl.specs.Given.{with_word, valued, node_given, schedule_given, queue_retain_given, with_retain, until_given, after_given, margin_given, parametered}
use Rattle.qm_dcl.specs.Settings.{or_value_fault, with_parameter, with_key, with_until, with_retain_word, with_job_retain, is_of_queue, with_retained, with_value, inner_value, has_value_ahead, lists_nodes, with_value_of, with_part, on_settings, settings_from}
use Rattle.qm_dcl.specs.Values.{said_by, raised_by, job_retain_said, is_until, side_said, moment_said}
use Rattle.qm_spelling.proofs.Times.{unquoted_is}
use Rattle.qm_spelling.proofs.SpelledPieces.{Said, kind_of, said_bytes}
use Rattle.qm_spelling.proofs.SpelledReading.{Spoken, Says, plain, TellsOne, Tells}

-- ---- by what is said

-- in capital letters where it isn't quoted
abbrev pub raised_text : Bool → List ℕ → List ℕ
raised_text true text = text
raised_text false text = map to_ascii_uppercase text

abbrev pub raised : Said → List ℕ
raised said = raised_text said.quoted said.text

-- the value behind the = of a value, where this follows that
abbrev pub inner_of : List Spoken → Option Said
inner_of [] = None
inner_of (Spoken.SaysParameter text ∷ ps) = None
inner_of (Spoken.SaysQualifier word ∷ ps) = None
inner_of (Spoken.SaysValue said ∷ ps) = None
inner_of (Spoken.SaysKeyValue said ∷ ps) = Some said

-- one more value follows
abbrev pub is_ahead : List Spoken → Bool
is_ahead [] = false
is_ahead (Spoken.SaysParameter text ∷ ps) = false
is_ahead (Spoken.SaysQualifier word ∷ ps) = false
is_ahead (Spoken.SaysValue said ∷ ps) = true
is_ahead (Spoken.SaysKeyValue said ∷ ps) = false

abbrev pub key_by : Settings → Option Side → Option Said → Option Settings
key_by s None inner = None
key_by s (Some side) None = None
key_by s (Some side) (Some inner) = margin_given s side inner.text

abbrev pub until_by : ℕ → Settings → Option Said → Option Settings
until_by now s None = None
until_by now s (Some inner) = until_given s (moment_said now (raised inner))

abbrev pub retain_word_by : Settings → Option JobRetain → Option Said → Option Settings
retain_word_by s None inner = None
retain_word_by s (Some retain) None = Some (with_retain s retain)
retain_word_by s (Some retain) (Some value) = None

abbrev pub job_retain_by : ℕ → Settings → List ℕ → Option Said → Option Settings
job_retain_by now s text inner = if is_until text then until_by now s inner else retain_word_by s (job_retain_said text) inner

abbrev pub retained_by : ℕ → Command → Settings → List ℕ → Option Said → Option Settings
retained_by now c s text inner = if is_of_queue c then queue_retain_given s text else job_retain_by now s text inner

-- a value of a qualifier, and the value behind its =, if there is one
abbrev pub value_by : ℕ → Command → Settings → Option Word → Said → Option Said → Option Settings
value_by now c s (Some words.Margin) said inner = key_by s (side_said (raised said)) inner
value_by now c s (Some words.Schedule) said inner = schedule_given s (raised said)
value_by now c s (Some words.After) said inner = after_given s (moment_said now (raised said))
value_by now c s (Some words.Retain) said inner = retained_by now c s (raised said) inner
value_by now c s word said inner = valued s word said.text

abbrev pub value_of_by : ℕ → Command → Settings → Said → List Spoken → Option Settings
value_of_by now c s said behind =
    if lists_nodes c s.word then node_given s (not (is_ahead behind)) said.text else value_by now c s s.word said (inner_of behind)

abbrev pub parameter_by : Command → Settings → List ℕ → Option Settings
parameter_by c s text = if s.awaits_object then Some (record s { awaits_object = false }) else parametered s c text

-- one more of them, with these behind it
abbrev pub one_given : ℕ → Command → Settings → Spoken → List Spoken → Option Settings
one_given now c s (Spoken.SaysParameter text) behind = parameter_by c s text
one_given now c s (Spoken.SaysQualifier word) behind = Some (with_word s word)
one_given now c s (Spoken.SaysValue said) behind = value_of_by now c s said behind
one_given now c s (Spoken.SaysKeyValue said) behind = Some s

-- all of them, where each can be read
abbrev pub given : ℕ → Command → Settings → List Spoken → Option Settings
given now c s [] = Some s
given now c s (p ∷ ps) = option_and_then (λ t. given now c t ps) (one_given now c s p ps)

-- ---- tokens say so

module _ (text : List ℕ) where
  said_is : (quoted : Bool) (bytes : List ℕ) (token : Token) → token.kind ≡ kind_of quoted → bytes_of text token ≡ said_bytes quoted bytes → said_by text token ≡ bytes
  said_is true bytes token kind is = rw (kind, is) (unquoted_is bytes)
  said_is false bytes token kind is = rw kind is

  raised_is : (quoted : Bool) (bytes : List ℕ) (token : Token) → token.kind ≡ kind_of quoted → bytes_of text token ≡ said_bytes quoted bytes → raised_by text token ≡ raised_text quoted bytes
  raised_is true bytes token kind is = rw (kind, is) (unquoted_is bytes)
  raised_is false bytes token kind is = rw kind (ap (map to_ascii_uppercase) is)

  pub says : (said : Said) (token : Token) → Says text token said → said_by text token ≡ said.text
  says said token h = said_is said.quoted said.text token h.0 h.1

  says_raised : (said : Said) (token : Token) → Says text token said → raised_by text token ≡ raised said
  says_raised said token h = raised_is said.quoted said.text token h.0 h.1

  -- both say it, or neither is there
  abbrev SaysInner : Option Token → Option Said → Type 0
  SaysInner None None = Unit {0}
  SaysInner None (Some said) = ⊥
  SaysInner (Some token) None = ⊥
  SaysInner (Some token) (Some said) = Says text token said

  inner_says : (more : List Part) (ps : List Spoken) → Tells text more ps → SaysInner (inner_value more) (inner_of ps)
  inner_says [] [] tells = tt
  inner_says [] (p ∷ ps) tells = absurd tells
  inner_says (part ∷ more) [] tells = absurd tells
  inner_says (parts.Parameter token ∷ more) (Spoken.SaysParameter bytes ∷ ps) tells = tt
  inner_says (parts.Qualifier word at ∷ more) (Spoken.SaysQualifier meant ∷ ps) tells = tt
  inner_says (parts.Value token ∷ more) (Spoken.SaysValue said ∷ ps) tells = tt
  inner_says (parts.KeyValue token ∷ more) (Spoken.SaysKeyValue said ∷ ps) tells = tells.0
  inner_says (part ∷ more) (p ∷ ps) tells = absurd tells.0

  ahead_is : (more : List Part) (ps : List Spoken) → Tells text more ps → has_value_ahead more ≡ is_ahead ps
  ahead_is [] [] tells = refl
  ahead_is [] (p ∷ ps) tells = absurd tells
  ahead_is (part ∷ more) [] tells = absurd tells
  ahead_is (parts.Parameter token ∷ more) (Spoken.SaysParameter bytes ∷ ps) tells = refl
  ahead_is (parts.Qualifier word at ∷ more) (Spoken.SaysQualifier meant ∷ ps) tells = refl
  ahead_is (parts.Value token ∷ more) (Spoken.SaysValue said ∷ ps) tells = refl
  ahead_is (parts.KeyValue token ∷ more) (Spoken.SaysKeyValue said ∷ ps) tells = refl
  ahead_is (part ∷ more) (p ∷ ps) tells = absurd tells.0

  -- what can be read by what is said is read from the text
  abbrev Follows : Result Settings Fault → Option Settings → Type 0
  Follows read o = (t : Settings) → o ≡ Some t → read ≡ Ok t

  or_fault : (token : Token) (o : Option Settings) → Follows (or_value_fault token o) o
  or_fault token o t is = ap (or_value_fault token) is

  or_fault_of : (token : Token) (a b : Option Settings) → a ≡ b → Follows (or_value_fault token a) b
  or_fault_of token a b same t is = ap (or_value_fault token) (same ∙ is)

  key_follows : (s : Settings) (key : Token) (side : Option Side) (token : Option Token) (inner : Option Said) → SaysInner token inner
      → Follows (with_key text s key side token) (key_by s side inner)
  key_follows s key None token inner h t is = absurd cc
  key_follows s key (Some side) None None h t is = absurd cc
  key_follows s key (Some side) None (Some inner) h t is = absurd h
  key_follows s key (Some side) (Some token) None h t is = absurd h
  key_follows s key (Some side) (Some token) (Some inner) h t is =
      or_fault_of token (margin_given s side (said_by text token)) (margin_given s side inner.text) (ap (margin_given s side) (says inner token h)) t is

  module _ (now : ℕ) where
    until_follows : (s : Settings) (token : Token) (time : Option Token) (inner : Option Said) → SaysInner time inner → Follows (with_until now text s token time) (until_by now s inner)
    until_follows s token None None h t is = absurd cc
    until_follows s token None (Some inner) h t is = absurd h
    until_follows s token (Some time) None h t is = absurd h
    until_follows s token (Some time) (Some inner) h t is =
        or_fault_of time (until_given s (moment_said now (raised_by text time))) (until_given s (moment_said now (raised inner)))
        (ap (λ (b : List ℕ). until_given s (moment_said now b)) (says_raised inner time h)) t is

    word_follows : (s : Settings) (token : Token) (retain : Option JobRetain) (value : Option Token) (inner : Option Said) → SaysInner value inner
        → Follows (with_retain_word s token retain value) (retain_word_by s retain inner)
    word_follows s token None value inner h t is = absurd cc
    word_follows s token (Some retain) None None h t is = ap (λ (o : Option Settings). ok_or o (record { place = 0; kind = fault.Value })) is
    word_follows s token (Some retain) None (Some inner) h t is = absurd h
    word_follows s token (Some retain) (Some value) None h t is = absurd h
    word_follows s token (Some retain) (Some value) (Some inner) h t is = absurd cc

    job_retain_follows : (s : Settings) (token : Token) (bytes : List ℕ) (value : Option Token) (inner : Option Said) → SaysInner value inner
        → Follows (with_job_retain now text s token bytes value) (job_retain_by now s bytes inner)
    job_retain_follows s token bytes value inner h = by (is_until bytes)
      where
        by : (until : Bool) → Follows (if until then with_until now text s token value else with_retain_word s token (job_retain_said bytes) value)
            (if until then until_by now s inner else retain_word_by s (job_retain_said bytes) inner)
        by true = until_follows s token value inner h
        by false = word_follows s token (job_retain_said bytes) value inner h

    module _ (c : Command) where
      retained_follows : (s : Settings) (token : Token) (bytes : List ℕ) (value : Option Token) (inner : Option Said) → SaysInner value inner
          → Follows (with_retained now text c s token bytes value) (retained_by now c s bytes inner)
      retained_follows s token bytes value inner h = by (is_of_queue c)
        where
          by : (queue : Bool) → Follows (if queue then or_value_fault token (queue_retain_given s bytes) else with_job_retain now text s token bytes value)
              (if queue then queue_retain_given s bytes else job_retain_by now s bytes inner)
          by true = or_fault token (queue_retain_given s bytes)
          by false = job_retain_follows s token bytes value inner h

      value_follows : (s : Settings) (word : Option Word) (token : Token) (said : Said) (value : Option Token) (inner : Option Said) → Says text token said → SaysInner value inner
          → Follows (with_value now text c s word token value) (value_by now c s word said inner)
      value_follows s (Some words.Margin) token said value inner h i = rw (says_raised said token h) (key_follows s token (side_said (raised said)) value inner i)
      value_follows s (Some words.Schedule) token said value inner h i =
          or_fault_of token (schedule_given s (raised_by text token)) (schedule_given s (raised said)) (ap (schedule_given s) (says_raised said token h))
      value_follows s (Some words.After) token said value inner h i =
          or_fault_of token (after_given s (moment_said now (raised_by text token))) (after_given s (moment_said now (raised said)))
          (ap (λ (b : List ℕ). after_given s (moment_said now b)) (says_raised said token h))
      value_follows s (Some words.Retain) token said value inner h i = rw (says_raised said token h) (retained_follows s token (raised said) value inner i)
      value_follows s word token said value inner h i =
          or_fault_of token (valued s word (said_by text token)) (valued s word said.text) (ap (valued s word) (says said token h))

      value_of_follows : (s : Settings) (token : Token) (said : Said) (more : List Part) (ps : List Spoken) → Says text token said → Tells text more ps
          → Follows (with_value_of now text c s token more) (value_of_by now c s said ps)
      value_of_follows s token said more ps h tells = by (lists_nodes c s.word)
        where
          by : (nodes : Bool) → Follows (if nodes then or_value_fault token (node_given s (not (has_value_ahead more)) (said_by text token)) else with_value now text c s s.word token (inner_value more))
              (if nodes then node_given s (not (is_ahead ps)) said.text else value_by now c s s.word said (inner_of ps))
          by true =
              or_fault_of token (node_given s (not (has_value_ahead more)) (said_by text token)) (node_given s (not (is_ahead ps)) said.text)
              (ap (λ (a : Bool). node_given s (not a) (said_by text token)) (ahead_is more ps tells) ∙ ap (node_given s (not (is_ahead ps))) (says said token h))
          by false = value_follows s s.word token said (inner_value more) (inner_of ps) h (inner_says more ps tells)

      parameter_follows : (s : Settings) (token : Token) (bytes : List ℕ) → Says text token (plain bytes) → Follows (with_parameter text c s token) (parameter_by c s bytes)
      parameter_follows s token bytes h = by s.awaits_object
        where
          by : (object : Bool) → Follows (if object then Ok (record s { awaits_object = false }) else or_value_fault token (parametered s c (said_by text token)))
              (if object then Some (record s { awaits_object = false }) else parametered s c bytes)
          by true = or_fault token (Some (record s { awaits_object = false }))
          by false = or_fault_of token (parametered s c (said_by text token)) (parametered s c bytes) (ap (parametered s c) (says (plain bytes) token h))

      one_follows : (s : Settings) (part : Part) (p : Spoken) (more : List Part) (ps : List Spoken) → TellsOne text part p → Tells text more ps
          → Follows (with_part now text c s part more) (one_given now c s p ps)
      one_follows s (parts.Parameter token) (Spoken.SaysParameter bytes) more ps h tells = parameter_follows s token bytes h
      one_follows s (parts.Qualifier word at) (Spoken.SaysQualifier meant) more ps h tells = λ t is. ap (λ (w : Word). Ok (with_word s w)) h ∙ ap (λ (o : Option Settings). ok_or o (record { place = 0; kind = fault.Value })) is
      one_follows s (parts.Value token) (Spoken.SaysValue said) more ps h tells = value_of_follows s token said more ps h tells
      one_follows s (parts.KeyValue token) (Spoken.SaysKeyValue said) more ps h tells = λ t is. ap (λ (o : Option Settings). ok_or o (record { place = 0; kind = fault.Value })) is
      one_follows s part p more ps h tells = absurd h

      on_both : (read : Result Settings Fault) (o : Option Settings) (f : Settings → Result Settings Fault) (g : Settings → Option Settings)
          → Follows read o → ((s : Settings) → Follows (f s) (g s)) → Follows (on_settings read f) (option_and_then g o)
      on_both read None f g h next t is = absurd cc
      on_both read (Some s) f g h next t is = ap (λ (r : Result Settings Fault). on_settings r f) (h s refl) ∙ next s t is

      -- so what the parts give is what they say
      pub follows : (more : List Part) (ps : List Spoken) (s : Settings) → Tells text more ps → Follows (settings_from now text c s more) (given now c s ps)
      follows [] [] s tells = or_none s
        where
          or_none : (s : Settings) → Follows (Ok s) (Some s)
          or_none s t is = ap (λ (o : Option Settings). ok_or o (record { place = 0; kind = fault.Value })) is
      follows [] (p ∷ ps) s tells = absurd tells
      follows (part ∷ more) [] s tells = absurd tells
      follows (part ∷ more) (p ∷ ps) s tells =
          on_both (with_part now text c s part more) (one_given now c s p ps) (λ t. settings_from now text c t more) (λ t. given now c t ps)
          (one_follows s part p more ps tells.0 tells.1) (λ t. follows more ps t tells.1)
