-- Where the rows of greater keys begin.
use Rattle.std.proofs.Common.{◌≡◌, ◌∙◌, ◌+◌, ◌-◌, ◌≤◌, ◌&&◌, nat_lt, ℕ, Bool, inl, inr, List, length, get_or, take, drop, ap, arith, find, Ordering, Less, Equal, Greater, length-drop, take_all}
use Rattle.std.specs.Ordering.{is_lt, nat_cmp, ordering_reverse}
use Rattle.std.specs.Cmp.{nat_cmp_total}
use Rattle.std.proofs.lemmas.Bool.{cases_lt}
use Rattle.std.proofs.lemmas.Cmp.{nat_list_cmp_total}
use Rattle.qm_model.specs.Common.{Entry, Queue, name_cmp}
use Rattle.qm_keyed.specs.Numbers.{lesser_is}
use Rattle.qm_keyed.specs.Places.{StandsAt, BelongsAt}
use Rattle.qm_scan.proofs.Found.{find_behind}

-- rows in order of a key, of which those are far enough whose keys are greater than this one
module _ {X K : Type 0} (cmp : K → K → Ordering) (key : X → K) (last : K) (far : X → Bool)
    (told : (x : X) (o : Ordering) → cmp (key x) last ≡ o → far x ≡ is_lt (ordering_reverse o)) (rows : List X) (p : X → Bool) where
  behind_it : (i : ℕ) → StandsAt cmp key last rows i → find (λ x. far x && p x) rows ≡ find p (drop (i + 1) rows)
  behind_it i stands =
      find_behind far p rows (i + 1)
      (λ k d low below. elim (cases_lt k i) [
        | inl less ↦ told (get_or rows k d) Less (stands.before k d low less)
        | inr most ↦
            let same : k ≡ i = omega (arith, most, below) in
            told (get_or rows k d) Equal (ap (λ (j : ℕ). cmp (key (get_or rows j d)) last) same ∙ stands.here d)
      ])
      (λ k d low within. told (get_or rows k d) Greater (stands.behind k d low within))

  from_there : (i : ℕ) → BelongsAt cmp key last rows i → find (λ x. far x && p x) rows ≡ find p (drop i rows)
  from_there i belongs =
      find_behind far p rows i
      (λ k d low below. told (get_or rows k d) Less (belongs.before k d low below))
      (λ k d low within. told (get_or rows k d) Greater (belongs.behind k d low within))

module _ (entries : List Entry) (n : ℕ) (p : Entry → Bool) where
  number_told : (e : Entry) (o : Ordering) → nat_cmp e.number n ≡ o → nat_lt n e.number ≡ is_lt (ordering_reverse o)
  number_told e o is = lesser_is n e.number ∙ ap is_lt (nat_cmp_total.antisymm n e.number ∙ ap ordering_reverse is)

  pub behind_number : (i : ℕ) → StandsAt nat_cmp (λ (e : Entry). e.number) n entries i
      → find (λ e. nat_lt n e.number && p e) entries ≡ find p (drop (i + 1) entries)
  behind_number i stands = behind_it nat_cmp (λ (e : Entry). e.number) n (λ (e : Entry). nat_lt n e.number) number_told entries p i stands

  pub from_number : (i : ℕ) → BelongsAt nat_cmp (λ (e : Entry). e.number) n entries i
      → find (λ e. nat_lt n e.number && p e) entries ≡ find p (drop i entries)
  from_number i belongs = from_there nat_cmp (λ (e : Entry). e.number) n (λ (e : Entry). nat_lt n e.number) number_told entries p i belongs

module _ (queues : List Queue) (name : List ℕ) (p : Queue → Bool) where
  name_told : (q : Queue) (o : Ordering) → name_cmp q.name name ≡ o → is_lt (name_cmp name q.name) ≡ is_lt (ordering_reverse o)
  name_told q o is = ap is_lt (nat_list_cmp_total.antisymm name q.name ∙ ap ordering_reverse is)

  pub behind_name : (i : ℕ) → StandsAt name_cmp (λ (q : Queue). q.name) name queues i
      → find (λ q. is_lt (name_cmp name q.name) && p q) queues ≡ find p (drop (i + 1) queues)
  behind_name i stands = behind_it name_cmp (λ (q : Queue). q.name) name (λ (q : Queue). is_lt (name_cmp name q.name)) name_told queues p i stands

  pub from_name : (i : ℕ) → BelongsAt name_cmp (λ (q : Queue). q.name) name queues i
      → find (λ q. is_lt (name_cmp name q.name) && p q) queues ≡ find p (drop i queues)
  from_name i belongs = from_there name_cmp (λ (q : Queue). q.name) name (λ (q : Queue). is_lt (name_cmp name q.name)) name_told queues p i belongs

-- what a slice from a place on has
pub slice_from : {X : Type 0} (xs : List X) (i : ℕ) → i ≤ length xs → take (length xs - i) (drop i xs) ≡ drop i xs
slice_from xs i within = take_all (length xs - i) (drop i xs) (omega (arith, length-drop i xs))
