-- Where no job runs in a queue, the entries that stand there have it as their home, and its tag.
use Rattle.std.proofs.Common.{◌≡◌, ◌≢◌, ◌∙◌, ℕ, ◌+◌, ◌<◌, ◌&&◌, Bool, true, false, List, [], ◌∷◌, length, get_or, drop, Option, Some, None, refl, sym, ap, unwrap_or, bytes_eq}
use Rattle.std.specs.List.{find, list_any}
use Rattle.std.specs.Option.{option_map_or}
use Rattle.std.proofs.lemmas.Bool.{or_parts}
use Rattle.std.proofs.lemmas.List.{get_or-map}
use Rattle.std.proofs.lemmas.Slice.Eq.{bytes_eq-Decides}
use Rattle.qm_tables.specs.Tags.{tag_of, entry_tag, tags_of}
use Rattle.qm_model.specs.Common.{matches, Entry, Query, runs_in, occupies}
use Rattle.qm_model.specs.Rows.{is_of_user}
use Rattle.qm_scan.specs.Listed.{is_entry_listed, is_listed_at_home}
use Rattle.qm_scan.proofs.Found.{find_nothing}

twice : (h m u : Bool) → (h && (m && u && h)) ≡ (m && u && h)
twice true m u = refl
twice false true true = refl
twice false true false = refl
twice false false true = refl
twice false false false = refl

nothing : (h m u : Bool) → (h && (m && u && false)) ≡ (m && u && false)
nothing true m u = refl
nothing false true true = refl
nothing false true false = refl
nothing false false true = refl
nothing false false false = refl

at_home : (runs : Option (List ℕ)) (home queue : List ℕ) (m u : Bool) → option_map_or (λ name. bytes_eq name queue) runs false ≡ false
    → (bytes_eq home queue && (m && u && bytes_eq (unwrap_or runs home) queue)) ≡ (m && u && bytes_eq (unwrap_or runs home) queue)
at_home None home queue m u is = twice (bytes_eq home queue) m u
at_home (Some name) home queue m u is = rw is (nothing (bytes_eq home queue) m u)

module _ (q : Query) (queue : List ℕ) (far : Entry → Bool) where
  same_one : (e : Entry) → occupies queue e ≡ false → is_listed_at_home q queue e ≡ is_entry_listed q (Some queue) e
  same_one e is = at_home (runs_in e.state) e.home queue (matches q.pattern e.name) (is_of_user q.user e) is

  -- the first that is listed is the first that is listed at home
  pub first_is_at_home : (entries : List Entry) → list_any (occupies queue) entries ≡ false
      → find (λ e. far e && is_listed_at_home q queue e) entries ≡ find (λ e. far e && is_entry_listed q (Some queue) e) entries
  first_is_at_home [] is = refl
  first_is_at_home (e ∷ es) is =
      let two : (occupies queue e ≡ false) × (list_any (occupies queue) es ≡ false) = or_parts (occupies queue e) (list_any (occupies queue) es) is in
      rw (same_one e two.0, first_is_at_home es two.1) refl

  -- an entry of another tag has another home
  passed_over : (e : Entry) → entry_tag e ≢ tag_of queue → is_listed_at_home q queue e ≡ false
  passed_over e other = told (bytes_eq e.home queue) refl
    where
      told : (t : Bool) → bytes_eq e.home queue ≡ t → is_listed_at_home q queue e ≡ false
      told false is = ap (λ (t : Bool). t && is_entry_listed q (Some queue) e) is
      told true is = absurd (other (ap tag_of ((bytes_eq-Decides e.home queue).0 is)))

  -- a place whose tag is another one is passed over
  pub other_tag : (entries : List Entry) (tags : List ℕ) (i : ℕ) → i < length entries → tags ≡ tags_of entries → get_or tags i 0 ≢ tag_of queue
      → find (is_listed_at_home q queue) (drop (i + 1) entries) ≡ find (is_listed_at_home q queue) (drop i entries)
  other_tag entries tags i within are other =
      find_nothing (is_listed_at_home q queue) entries i within
      (λ e there. passed_over e (λ same. other (ap (λ (ts : List ℕ). get_or ts i 0) are ∙ get_or-map entry_tag entries i e 0 within ∙ ap entry_tag (sym there) ∙ same)))
