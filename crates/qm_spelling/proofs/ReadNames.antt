-- What a qualifier leaves by the tokens of a command, by their names.
use Rattle.std.proofs.Common.{◌≡◌, ◌⊎◌, inl, inr, ◌<◌, ℕ, zero, suc, Bool, true, false, cond, ◌&&◌, ◌||◌, not, List, [], ◌∷◌, length, map, find, Option, None, Some, IfSome, is_some, refl, sym, ap, ◌∙◌, subst, arith, Contains, option_map, bytes_eq}
use Rattle.std.specs.List.{list_all, slice_index_or}
use Rattle.std.proofs.lemmas.Slice.Eq.{bytes_eq-Decides}
use Rattle.qm_commands.specs.declared.tokens.token.Token.{Token}
use Rattle.qm_commands.specs.declared.rules.Takes.{Takes}
use Rattle.qm_commands.specs.declared.table.Row.{Row}
use Rattle.qm_commands.specs.declared.table.Verb.{Verb}
use Rattle.qm_commands.specs.declared.word.Word.{Word}
use Rattle.qm_commands.specs.declared.word.Word.TheVariants as words
use Rattle.qm_names.specs.Conflicts.{is_word_given}
use Rattle.qm_commands.specs.Names.{is_no_rival, is_alone, is_name, rules_for, rule_for}
use Rattle.qm_commands.specs.Naming.{names_for, StandsFor}
use Rattle.qm_commands.specs.Spelled.{is_spelled, begins}
use Rattle.qm_commands.specs.Words.{spelling, undone_by}
use Rattle.qm_commands.proofs.NameLemmas.{stands_for}
use Rattle.qm_spelling.proofs.ReadConflicts.{Tracks}
use Rattle.qm_spelling.proofs.ReadGiven.{after_given}
use Rattle.qm_spelling.proofs.ReadTokens.{both_first, both_second, beside, either}

same_rule : (a b : Word × Takes) → ◌≡◌ {A = Option (Word × Takes)} (Some a) (Some b) → a ≡ b
same_rule a b h = cc

-- what is found passes
found_passes : (p : Word × Takes → Bool) (rules : List (Word × Takes)) → IfSome (find p rules) (λ rule. p rule ≡ true)
found_passes p [] = tt
found_passes p (rule ∷ rules) = first (p rule) refl (found_passes p rules)
  where
    first : (b : Bool) → p rule ≡ b → IfSome (find p rules) (λ r. p r ≡ true) → IfSome (cond b (Some rule) (find p rules)) (λ r. p r ≡ true)
    first true is later = is
    first false is later = later

module _ (text : List ℕ) (verb : Verb) (row : Option Row) where
  -- the rule of a token is one that it means
  rule_is_meant : (token : Token) (rule : Word × Takes) → rule_for text verb row token ≡ Some rule → is_name text verb row token rule.0 ≡ true
  rule_is_meant token rule found =
      subst (λ (o : Option (Word × Takes)). IfSome o (λ r. is_name text verb row token r.0 ≡ true)) found
      (found_passes (λ r. is_name text verb row token r.0) (rules_for verb row))

  -- ---- a qualifier that no other form undoes

  module _ (word : Word) (is_it : Word → Bool) (only : (w : Word) → is_it w ≡ true → w ≡ word) (alone : undone_by word ≡ None) where
    is_undone : (token : Token) (other : Option Word) → other ≡ None → is_word_given text verb row other token ≡ false
    is_undone token None is = refl
    is_undone token (Some w) is = absurd cc

    counts : (slash : ℕ) (so_far : Option ℕ) (named undone here b : Bool) → undone ≡ false → (here ≡ true → named ≡ true) → (b ≡ true → is_some so_far ≡ true)
        → (here || b) ≡ true → is_some (cond named (Some slash) (cond undone None so_far)) ≡ true
    counts slash so_far true undone here b not means had h = refl
    counts slash so_far false true here b not means had h = absurd cc
    counts slash so_far false false true b not means had h = let no = means refl in absurd cc
    counts slash so_far false false false b not means had h = had h

    pub tracks_alone : Tracks text verb row word (λ w b. is_it w || b)
    tracks_alone token rule slash so_far b found had h =
        counts slash so_far (is_name text verb row token word) (is_word_given text verb row (undone_by word) token) (is_it rule.0) b (is_undone token (undone_by word) alone)
        (λ here. subst (λ (w : Word). is_name text verb row token w ≡ true) (only rule.0 here) (rule_is_meant token rule found)) had h

  -- ---- /AFTER, which /NOAFTER undoes

  other_is : (token : Token) (name : List ℕ) (rules : List (Word × Takes)) → list_all (λ rule. is_no_rival text token name (spelling rule.0)) rules ≡ true
      → (other : List ℕ) (k : ℕ) → k < length (map (λ (rule : Word × Takes). spelling rule.0) rules) → slice_index_or (map (λ (rule : Word × Takes). spelling rule.0) rules) k other ≡ other
      → begins text other token ≡ true → other ≡ name
  other_is token name [] all other k within is begun = absurd (omega (arith, within))
  other_is token name (rule ∷ rules) all other zero within is begun =
      let first = both_first (is_no_rival text token name (spelling rule.0)) (list_all (λ rule. is_no_rival text token name (spelling rule.0)) rules) all in
      let here : begins text (spelling rule.0) token ≡ true = ap (λ (l : List ℕ). begins text l token) is ∙ begun in
      sym is ∙ (bytes_eq-Decides (spelling rule.0) name).0 (beside (begins text (spelling rule.0) token) (bytes_eq (spelling rule.0) name) first here)
  other_is token name (rule ∷ rules) all other (suc k) within is begun =
      other_is token name rules (both_second (is_no_rival text token name (spelling rule.0)) (list_all (λ rule. is_no_rival text token name (spelling rule.0)) rules) all) other k (omega (arith, within)) is begun

  -- a name that a token means is that of its rule
  meant_is_rule : (token : Token) (rule : Word × Takes) (word : Word) → rule_for text verb row token ≡ Some rule → Contains (names_for verb row) (spelling word)
      → is_name text verb row token word ≡ true → spelling rule.0 ≡ spelling word
  meant_is_rule token rule word found here meant = by (either (is_spelled text (spelling word) token) (begins text (spelling word) token && is_alone text verb row token (spelling word)) meant)
    where
      same : (a b : List ℕ) → ◌≡◌ {A = Option (List ℕ)} (Some a) (Some b) → a ≡ b
      same a b h = cc

      of_name : StandsFor text (names_for verb row) token (spelling word) → spelling rule.0 ≡ spelling word
      of_name stands =
          same (spelling rule.0) (spelling word)
          (sym (ap (option_map (λ (r : Word × Takes). spelling r.0)) found) ∙ (stands_for text token verb row (spelling word)).1 stands)

      by : (is_spelled text (spelling word) token ≡ true) ⊎ ((begins text (spelling word) token && is_alone text verb row token (spelling word)) ≡ true) → spelling rule.0 ≡ spelling word
      by (inl whole) = of_name (here, inl whole)
      by (inr cut) =
          of_name (
            here,
            inr (
              both_first (begins text (spelling word) token) (is_alone text verb row token (spelling word)) cut,
              λ other there begun.
                  other_is token (spelling word) (rules_for verb row) (both_second (begins text (spelling word) token) (is_alone text verb row token (spelling word)) cut) other there.0 there.1 there.2 begun,
            ),
          )

  no_after_undoes : (word : Word) (b : Bool) → bytes_eq (spelling word) (spelling words.NoAfter) ≡ true → after_given word b ≡ true → ⊥
  no_after_undoes words.NoAfter b is h = cc
  no_after_undoes _ b is h = cc

  after_is_meant : (word : Word) (named b : Bool) → (word ≡ words.After → named ≡ true) → named ≡ false → after_given word b ≡ true → b ≡ true
  after_is_meant words.After named b means not h = let is = means refl in absurd cc
  after_is_meant words.NoAfter named b means not h = absurd cc
  after_is_meant _ named b means not h = h

  after_counts : (slash : ℕ) (so_far : Option ℕ) (named undone : Bool) → (undone ≡ true → ⊥) → (named ≡ false → is_some so_far ≡ true)
      → is_some (cond named (Some slash) (cond undone None so_far)) ≡ true
  after_counts slash so_far true undone not had = refl
  after_counts slash so_far false true not had = absurd (not refl)
  after_counts slash so_far false false not had = had refl

  pub tracks_after : Contains (names_for verb row) (spelling words.NoAfter) → Tracks text verb row words.After after_given
  tracks_after here token rule slash so_far b found had h =
      after_counts slash so_far (is_name text verb row token words.After) (is_name text verb row token words.NoAfter)
      (λ undone. no_after_undoes rule.0 b ((bytes_eq-Decides (spelling rule.0) (spelling words.NoAfter)).1 (meant_is_rule token rule words.NoAfter found here undone)) h)
      (λ not. had (after_is_meant rule.0 (is_name text verb row token words.After) b (λ is. subst (λ (w : Word). is_name text verb row token w ≡ true) is (rule_is_meant token rule found)) not h))
