-- The tags of entries, and what an edit of the entries makes of them.
use Rattle.std.proofs.Common.{◌≡◌, ◌∙◌, ℕ, suc, ◌+◌, ◌<◌, ◌≤◌, List, [], ◌∷◌, ◌++◌, length, get_or, map, take, drop, set, sym, ap, arith, fold, remove}
use Rattle.std.proofs.lemmas.List.{map-append, map-set, map_push, take-map, drop-map, get_or-set_same, take_more, take_all, take-append-le}
use Rattle.std.proofs.lemmas.Simd.{map-map}
use Rattle.qm_model.specs.Common.{Entry, entry_at}
use Rattle.qm_tables.specs.Boxed.{brought}
use Rattle.qm_tables.specs.Tags.{tag_behind, tag_of, entry_tag, tags_of}
use Rattle.qm_tables.proofs.Behind.{turned_map}

-- all bytes have been read
pub tag_read : (name : List ℕ) (i : ℕ) → length name ≤ i → fold tag_behind 0 (take i name) ≡ tag_of name
unfolding tag_of
tag_read name i past = ap (fold tag_behind 0) (take_all i name past)

-- one entry more has its tag
pub tags_more : (es : List Entry) (i : ℕ) (e : Entry) (tags : List ℕ) (tag : ℕ) → i < length es → e ≡ get_or es i e → tags ≡ tags_of (take i es) → tag ≡ entry_tag e
    → tags ++ tag ∷ [] ≡ tags_of (take (i + 1) es)
tags_more es i e tags tag within read before is =
    ap (λ (t : ℕ). tags ++ t ∷ []) (is ∙ ap entry_tag read)
    ∙ ap (λ (ts : List ℕ). ts ++ entry_tag (get_or es i e) ∷ []) before
    ∙ sym (map_push entry_tag (take i es) (get_or es i e))
    ∙ ap tags_of (sym (take_more es i e within))

module _ (es ds : List Entry) (tags now : List ℕ) (i : ℕ) (within : i < length es) (before : tags ≡ tags_of es) (read : (d : Entry) → now ≡ set tags i (entry_tag (get_or ds i d))) where
  -- the tag of an entry that is put in the place of another one
  pub tags_set : (e : Entry) → ds ≡ set es i e → now ≡ tags_of ds
  tags_set e is =
      let there : get_or ds i e ≡ e = ap (λ (xs : List Entry). get_or xs i e) is ∙ get_or-set_same es i e e within in
      read e
      ∙ ap (λ (x : Entry). set tags i (entry_tag x)) there
      ∙ ap (λ (ts : List ℕ). set ts i (entry_tag e)) before
      ∙ sym (map-set entry_tag es i e)
      ∙ ap tags_of (sym is)

-- the tag of an entry that is changed where it stands
pub tags_changed : (change : Entry → Entry) (es ds : List Entry) (tags now : List ℕ) (i : ℕ) → i < length es → tags ≡ tags_of es
    → ((d : Entry) → ds ≡ set es i (change (get_or es i d))) → ((d : Entry) → now ≡ set tags i (entry_tag (get_or ds i d))) → now ≡ tags_of ds
tags_changed change [] ds tags now i within before is read = absurd (omega (arith, within))
tags_changed change (e ∷ es) ds tags now i within before is read = tags_set (e ∷ es) ds tags now i within before read (change (get_or (e ∷ es) i e)) (is e)

module _ (es : List Entry) where
  pub tags_removed : (i : ℕ) → remove (tags_of es) i ≡ tags_of (remove es i)
  tags_removed i = sym (rw (take-map entry_tag i es, drop-map entry_tag (suc i) es) (map-append entry_tag (take i es) (drop (suc i) es)))

  pub tags_turned : (g p : ℕ) → take g (tags_of es) ++ brought p (drop g (tags_of es)) ≡ tags_of (take g es ++ brought p (drop g es))
  tags_turned g p = sym (turned_map entry_tag g p es)

  pub tags_behind : (g : ℕ) → drop g (tags_of es) ≡ tags_of (drop g es)
  tags_behind g = drop-map entry_tag g es

  -- no moment changes a home
  pub tags_woken : (now : ℕ) → tags_of (map (entry_at now) es) ≡ tags_of es
  tags_woken now = map-map entry_tag (entry_at now) es

-- what is written back over the whole list is all that the list has
pub written_back : {X : Type 0} (n : ℕ) (xs ys : List X) → n ≡ length xs → take n (xs ++ ys) ≡ xs
written_back n xs ys is = take-append-le n xs ys (omega (arith, is)) ∙ take_all n xs (omega (arith, is))
