-- Which names are accepted.
use Rattle.std.proofs.Common.{◌≡◌, ◌⊎◌, inl, inr, ◌↔◌, zero, suc, ℕ, Bool, true, false, cond, ◌&&◌, ◌||◌, ◌==◌, not, nat_le, List, [], ◌∷◌, length, map, take, take_all, find, Option, Some, refl, sym, ap, subst, ◌∙◌, arith, Contains, option_map, bytes_eq}
use Rattle.std.specs.List.{list_all}
use Rattle.std.specs.Char.{to_ascii_uppercase}
use Rattle.std.proofs.lemmas.Bool.Decides.{nat_tests}
use Rattle.std.proofs.lemmas.Slice.Eq.{bytes_eq-Decides}
use Rattle.std.proofs.lemmas.List.{length-map}
use Rattle.qm_commands.specs.declared.tokens.token.Token.{Token}
use Rattle.qm_commands.specs.declared.rules.Takes.{Takes}
use Rattle.qm_commands.specs.declared.table.Row.{Row}
use Rattle.qm_commands.specs.declared.table.Verb.{Verb}
use Rattle.qm_commands.specs.declared.word.Word.{Word}
use Rattle.qm_commands.specs.Names.{is_no_rival, means, rules_for, rule_for}
use Rattle.qm_commands.specs.Naming.{names_for, StandsFor}
use Rattle.qm_commands.specs.Spelled.{is_word, bytes_of, is_raised_to, is_spelled, begins}
use Rattle.qm_commands.specs.Words.{spelling}

-- ---- truth values

both_first : (a b : Bool) → (a && b) ≡ true → a ≡ true
both_first true b h = refl
both_first false b h = h

both_second : (a b : Bool) → (a && b) ≡ true → b ≡ true
both_second true b h = h
both_second false b h = absurd cc

and_of : (a b : Bool) → a ≡ true → b ≡ true → (a && b) ≡ true
and_of true b x y = y
and_of false b x y = x

either : (a b : Bool) → (a || b) ≡ true → (a ≡ true) ⊎ (b ≡ true)
either true b h = inl refl
either false b h = inr h

or_left : (a b : Bool) → a ≡ true → (a || b) ≡ true
or_left true b h = refl
or_left false b h = absurd cc

or_right : (a b : Bool) → b ≡ true → (a || b) ≡ true
or_right true b h = refl
or_right false b h = h

-- where something holds, what stands beside its negation does
beside : (a b : Bool) → (not a || b) ≡ true → a ≡ true → b ≡ true
beside true b h is = h
beside false b h is = absurd cc

unless : (a b : Bool) → (a ≡ true → b ≡ true) → (not a || b) ≡ true
unless true b h = h refl
unless false b h = refl

-- what doesn't begin isn't there whole
unspelled : (whole begun alone : Bool) → (whole ≡ true → begun ≡ true) → begun ≡ false → (whole || (begun && alone)) ≡ false
unspelled true begun alone both not_begun = sym (both refl) ∙ not_begun
unspelled false true alone both not_begun = absurd cc
unspelled false false alone both not_begun = refl

-- ---- elements

abbrev In : List (List ℕ) → List ℕ → Type 0
In [] x = ⊥
In (y ∷ ys) x = (y ≡ x) ⊎ In ys x

in_list : (ys : List (List ℕ)) (x : List ℕ) → Contains ys x → In ys x
in_list [] x (k, within, is) = absurd (omega (arith, within))
in_list (y ∷ ys) x (zero, within, is) = inl is
in_list (y ∷ ys) x (suc k, within, is) = inr (in_list ys x (k, omega (arith, within), is))

contained : (ys : List (List ℕ)) (x : List ℕ) → In ys x → Contains ys x
contained [] x here = absurd here
contained (y ∷ ys) x (inl is) = (0, omega arith, is)
contained (y ∷ ys) x (inr there) = let c = contained ys x there in (suc c.0, omega (arith, c.1), c.2)

-- ---- a whole name is begun, and is the only one that is whole

same_text : (a b : List ℕ) → bytes_eq a b ≡ true → a ≡ b
same_text a b h = (bytes_eq-Decides a b).0 h

equal_text : (a b : List ℕ) → a ≡ b → bytes_eq a b ≡ true
equal_text a b h = (bytes_eq-Decides a b).1 h

all_taken : (xs : List ℕ) (n : ℕ) → n ≡ length xs → take n xs ≡ xs
all_taken xs n is = take_all n xs (omega (arith, is))

no_longer : (a b : ℕ) → a ≡ b → nat_le a b ≡ true
no_longer a b is = grind (arith, nat_tests)

module _ (text : List ℕ) (token : Token) where
  abbrev raised : List ℕ
  raised = map to_ascii_uppercase (bytes_of text token)

  whole_is : (name : List ℕ) → is_spelled text name token ≡ true → raised ≡ name
  whole_is name h = same_text raised name (both_second (is_word token.kind) (is_raised_to name (bytes_of text token)) h)

  one_whole : (a b : List ℕ) → is_spelled text a token ≡ true → is_spelled text b token ≡ true → a ≡ b
  one_whole a b ha hb = sym (whole_is a ha) ∙ whole_is b hb

  as_long : (name : List ℕ) → raised ≡ name → length (bytes_of text token) ≡ length name
  as_long name is = sym (length-map (bytes_of text token) to_ascii_uppercase) ∙ ap length is

  whole_begins : (name : List ℕ) → is_spelled text name token ≡ true → begins text name token ≡ true
  whole_begins name h =
      let is = whole_is name h in let long = as_long name is in
      and_of (is_word token.kind && nat_le (length (bytes_of text token)) (length name)) _
      (and_of (is_word token.kind) _ (both_first (is_word token.kind) _ h) (no_longer (length (bytes_of text token)) (length name) long))
      (equal_text raised (take (length (bytes_of text token)) name) (is ∙ sym (all_taken name (length (bytes_of text token)) long)))

  -- a token that doesn't begin a name doesn't mean it
  pub unbegun : (name : List ℕ) (alone : Bool) → begins text name token ≡ false → means text token name alone ≡ false
  unbegun name alone not_begun = unspelled (is_spelled text name token) (begins text name token) alone (whole_begins name) not_begun

  cut : (whole : Bool) → (whole ≡ true → ⊥) → false ≡ whole
  cut true not_whole = absurd (not_whole refl)
  cut false not_whole = refl

  whole_or_cut : (name : List ℕ) (same : Bool) → (length (bytes_of text token) == length name) ≡ same → begins text name token ≡ true → same ≡ is_spelled text name token
  whole_or_cut name true is begun =
      let long : length (bytes_of text token) ≡ length name = grind (arith, nat_tests, is) in
      sym (and_of (is_word token.kind) _
      (both_first (is_word token.kind) _ (both_first (is_word token.kind && nat_le (length (bytes_of text token)) (length name)) _ begun))
      (subst (λ n. is_raised_to n (bytes_of text token) ≡ true) (all_taken name (length (bytes_of text token)) long)
      (both_second (is_word token.kind && nat_le (length (bytes_of text token)) (length name)) _ begun)))
  whole_or_cut name false is begun = cut (is_spelled text name token) (λ whole. let long = as_long name (whole_is name whole) in grind (arith, nat_tests, is, long))

  -- a token that begins a name spells it whole where it is as long
  pub as_long_whole : (name : List ℕ) → begins text name token ≡ true → (length (bytes_of text token) == length name) ≡ is_spelled text name token
  as_long_whole name begun = whole_or_cut name (length (bytes_of text token) == length name) refl begun

  abbrev spells : List ℕ → Bool
  spells name = is_spelled text name token

  abbrev starts : List ℕ → Bool
  starts name = begins text name token

  -- ---- which of the names of rules

  abbrev name_of : Word × Takes → List ℕ
  name_of rule = spelling rule.0

  abbrev names : List (Word × Takes) → List (List ℕ)
  names rules = map (λ rule. spelling rule.0) rules

  abbrev is_only : List (Word × Takes) → List ℕ → Bool
  is_only rules name = list_all (λ rule. is_no_rival text token name (spelling rule.0)) rules

  no_rival : (rules : List (Word × Takes)) (name other : List ℕ) → is_only rules name ≡ true → In (names rules) other → starts other ≡ true → other ≡ name
  no_rival [] name other only here begun = absurd here
  no_rival (rule ∷ rules) name other only (inl is) begun =
      let P : List ℕ → Type 0 = λ o. starts o ≡ true → o ≡ name in
      subst P is (λ b. same_text (name_of rule) name (beside (starts (name_of rule)) (bytes_eq (name_of rule) name) (both_first (is_no_rival text token name (name_of rule)) (is_only rules name) only) b)) begun
  no_rival (rule ∷ rules) name other only (inr there) begun =
      no_rival rules name other (both_second (is_no_rival text token name (name_of rule)) (is_only rules name) only) there begun

  only_if : (rules : List (Word × Takes)) (name : List ℕ) → ((other : List ℕ) → In (names rules) other → starts other ≡ true → other ≡ name) → is_only rules name ≡ true
  only_if [] name alone = refl
  only_if (rule ∷ rules) name alone =
      and_of (is_no_rival text token name (name_of rule)) (is_only rules name)
      (unless (starts (name_of rule)) (bytes_eq (name_of rule) name) (λ b. equal_text (name_of rule) name (alone (name_of rule) (inl refl) b)))
      (only_if rules name (λ other there b. alone other (inr there) b))

  -- ---- what is found

  module _ (p : Word × Takes → Bool) where
    abbrev Gives : List (Word × Takes) → List ℕ → Option (Word × Takes) → Type 0
    Gives rules name found = (option_map (λ (rule : Word × Takes). spelling rule.0) found ≡ Some name) → In (names rules) name × ((rule : Word × Takes) × (name_of rule ≡ name) × (p rule ≡ true))

    first_gives : (rule : Word × Takes) (rules : List (Word × Takes)) (name : List ℕ) (b : Bool) → p rule ≡ b → Gives rules name (find p rules)
        → Gives (rule ∷ rules) name (cond b (Some rule) (find p rules))
    first_gives rule rules name true is rest h = let same : name_of rule ≡ name = cc in (inl same, (rule, same, is))
    first_gives rule rules name false is rest h = let r = rest h in (inr r.0, r.1)

    found_gives : (rules : List (Word × Takes)) (name : List ℕ) → Gives rules name (find p rules)
    found_gives [] name h = absurd cc
    found_gives (rule ∷ rules) name h = first_gives rule rules name (p rule) refl (found_gives rules name) h

    abbrev Is : List (Word × Takes) → List ℕ → Option (Word × Takes) → Type 0
    Is rules name found = option_map (λ (rule : Word × Takes). spelling rule.0) found ≡ Some name

    first_is : (rule : Word × Takes) (rules : List (Word × Takes)) (name : List ℕ) (b : Bool) → p rule ≡ b
        → ((r : Word × Takes) → In (names (rule ∷ rules)) (name_of r) → p r ≡ true → name_of r ≡ name)
        → ((name_of rule ≡ name) → p rule ≡ true)
        → (name_of rule ≡ name) ⊎ Is rules name (find p rules)
        → Is (rule ∷ rules) name (cond b (Some rule) (find p rules))
    first_is rule rules name true is one here at = ap Some (one rule (inl refl) is)
    first_is rule rules name false is one here (inl same) = absurd (let yes = here same in cc)
    first_is rule rules name false is one here (inr there) = there

    found_is : (rules : List (Word × Takes)) (name : List ℕ) → In (names rules) name
        → ((r : Word × Takes) → In (names rules) (name_of r) → p r ≡ true → name_of r ≡ name)
        → ((r : Word × Takes) → name_of r ≡ name → p r ≡ true) → Is rules name (find p rules)
    found_is [] name here one all = absurd here
    found_is (rule ∷ rules) name (inl same) one all = first_is rule rules name (p rule) refl one (all rule) (inl same)
    found_is (rule ∷ rules) name (inr there) one all =
        first_is rule rules name (p rule) refl one (all rule) (inr (found_is rules name there (λ r at is. one r (inr at) is) all))

  module _ (verb : Verb) (row : Option Row) where
    abbrev rules : List (Word × Takes)
    rules = rules_for verb row

    abbrev is_meant : List ℕ → Bool
    is_meant name = means text token name (is_only rules name)

    -- no two names are meant
    one_meant : (a b : List ℕ) → In (names rules) a → In (names rules) b → is_meant a ≡ true → is_meant b ≡ true → a ≡ b
    one_meant a b in_a in_b ma mb = by (either (spells a) (starts a && is_only rules a) ma) (either (spells b) (starts b && is_only rules b) mb)
      where
        begun : (name : List ℕ) → (spells name ≡ true) ⊎ ((starts name && is_only rules name) ≡ true) → starts name ≡ true
        begun name (inl whole) = whole_begins name whole
        begun name (inr alone) = both_first (starts name) (is_only rules name) alone

        by : (spells a ≡ true) ⊎ ((starts a && is_only rules a) ≡ true) → (spells b ≡ true) ⊎ ((starts b && is_only rules b) ≡ true) → a ≡ b
        by (inl whole_a) (inl whole_b) = one_whole a b whole_a whole_b
        by wa (inr alone) = no_rival rules b a (both_second (starts b) (is_only rules b) alone) in_a (begun a wa)
        by (inr alone) (inl whole_b) = sym (no_rival rules a b (both_second (starts a) (is_only rules a) alone) in_b (whole_begins b whole_b))

    stands : (name : List ℕ) → In (names rules) name → is_meant name ≡ true → StandsFor text (names_for verb row) token name
    stands name here meant = (contained (names rules) name here, by (either (spells name) (starts name && is_only rules name) meant))
      where
        by : (spells name ≡ true) ⊎ ((starts name && is_only rules name) ≡ true) → (spells name ≡ true) ⊎ ((starts name ≡ true) × ((other : List ℕ) → Contains (names rules) other → starts other ≡ true → other ≡ name))
        by (inl whole) = inl whole
        by (inr alone) = inr (
          both_first (starts name) (is_only rules name) alone,
          λ other there b.
              no_rival rules name other (both_second (starts name) (is_only rules name) alone) (in_list (names rules) other there) b,
        )

    meant_by : (name : List ℕ) → StandsFor text (names_for verb row) token name → is_meant name ≡ true
    meant_by name (here, inl whole) = or_left (spells name) (starts name && is_only rules name) whole
    meant_by name (here, inr alone) =
        or_right (spells name) (starts name && is_only rules name)
        (and_of (starts name) (is_only rules name) alone.0 (only_if rules name (λ other there b. alone.1 other (contained (names rules) other there) b)))

    pub stands_for : (name : List ℕ) → (option_map (λ (rule : Word × Takes). spelling rule.0) (rule_for text verb row token) ≡ Some name) ↔ StandsFor text (names_for verb row) token name
    stands_for name = (
      (λ h. let g = found_gives (λ rule. is_meant (spelling rule.0)) rules name h in
          stands name g.0 (subst (λ n. is_meant n ≡ true) g.1.1 g.1.2)),
      (λ s. let meant = meant_by name s in let here = in_list (names rules) name s.0 in
          found_is (λ rule. is_meant (spelling rule.0)) rules name here
          (λ r at is. one_meant (name_of r) name at here is meant)
          (λ r is. subst (λ n. is_meant n ≡ true) (sym is) meant)),
    )
