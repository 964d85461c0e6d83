-- The runs that a fetch shows stand by number, and the round has each of those that may step once.
use Rattle.std.proofs.Common.{◌≡◌, ◌∙◌, ℕ, zero, suc, Bool, true, false, cond, List, [], ◌∷◌, ◌++◌, length, get_or, map, refl, sym, ap, subst, arith, Option, None, Some, ◌==◌, IfSome, option_map, IsSome, nat_cmp, Less}
use Rattle.std.specs.List.{All, AllByRecursion, AllPairs, cons_option, filter}
use Rattle.std.proofs.lemmas.Bool.Decides.{nat_tests}
use Rattle.std.proofs.lemmas.List.{get_or_append_left, get_or_at, length-append}
use Rattle.std.proofs.lemmas.List.Elements.{All-cons, All-nil, All-tail, filter_map-append}
use Rattle.std.proofs.lemmas.List.Kept.{AllPairs-cons}
use Rattle.qm_history.specs.Common.{Duty, Work, IsInOrder}
use Rattle.qm_keyed.proofs.Pairs.{pairs_nil}
use Rattle.qm_model.specs.Kept.{KeptRun, kept_after, kept_of, may_step, run_kept, round_of}
use Rattle.qm_node.specs.Rows.{StandOnce}
use Rattle.qm_node.proofs.Rows.{itself}

-- ---- lists

pairs_tail : {X : Type 0} (R : X → X → Type 0) (x : X) (xs : List X) → AllPairs R (x ∷ xs) → AllPairs R xs
pairs_tail R x xs pairs i j d below within = pairs (suc i) (suc j) d (omega (arith, below)) (omega (arith, within))

pairs_head : {X : Type 0} (R : X → X → Type 0) (x : X) (xs : List X) → AllPairs R (x ∷ xs) → All (R x) xs
pairs_head R x xs pairs j d within = pairs zero (suc j) d (omega arith) (omega (arith, within))

-- ---- the round

some_later : (run : ℕ) (k : KeptRun) (o : Option KeptRun) (b : Bool) → IsSome o → IsSome (cond b (Some k) o)
some_later run k o true h = refl
some_later run k o false h = h

kept_first : (k : KeptRun) (ks : List KeptRun) → IsSome (run_kept k.run (k ∷ ks))
kept_first k ks = subst (λ (b : Bool). IsSome (cond b (Some k) (run_kept k.run ks))) (sym (itself k.run)) refl

round_at : (P : ℕ → Type 0) (k : KeptRun) (ks : List KeptRun) → P k.run → AllByRecursion P (round_of ks) → (b : Bool)
    → AllByRecursion P (map (λ (k : KeptRun). k.run) (cond b (k ∷ filter may_step ks) (filter may_step ks)))
round_at P k ks first rest true = (first, rest)
round_at P k ks first rest false = rest

kept_among : (all ks : List KeptRun) → ((run : ℕ) → IsSome (run_kept run ks) → IsSome (run_kept run all)) → AllByRecursion (λ (run : ℕ). IsSome (run_kept run all)) (round_of ks)
kept_among all [] among = tt
kept_among all (k ∷ ks) among =
    round_at (λ (run : ℕ). IsSome (run_kept run all)) k ks (among k.run (kept_first k ks))
    (kept_among all ks (λ run h. among run (some_later run k (run_kept run ks) (k.run == run) h))) (may_step k)

-- each run of the round is among those that are kept
pub round_kept : (ks : List KeptRun) → AllByRecursion (λ (run : ℕ). IsSome (run_kept run ks)) (round_of ks)
round_kept ks = kept_among ks ks (λ run h. h)

less_apart : (a b : ℕ) → nat_cmp a b ≡ Less → (b == a) ≡ false
less_apart a b less = grind (arith, nat_tests)

round_apart : (run : ℕ) (ks : List KeptRun) → All (λ (k : KeptRun). nat_cmp run k.run ≡ Less) ks → AllByRecursion (λ (other : ℕ). (other == run) ≡ false) (round_of ks)
round_apart run [] all = tt
round_apart run (k ∷ ks) all =
    round_at (λ (other : ℕ). (other == run) ≡ false) k ks (less_apart run k.run (all 0 k (omega arith)))
    (round_apart run ks (All-tail (λ (k : KeptRun). nat_cmp run k.run ≡ Less) k ks all)) (may_step k)

once_at : (k : KeptRun) (ks : List KeptRun) → AllByRecursion (λ (other : ℕ). (other == k.run) ≡ false) (round_of ks) → StandOnce (round_of ks) → (b : Bool)
    → StandOnce (map (λ (k : KeptRun). k.run) (cond b (k ∷ filter may_step ks) (filter may_step ks)))
once_at k ks apart rest true = (apart, rest)
once_at k ks apart rest false = rest

-- and stands there once
pub round_once : (ks : List KeptRun) → IsInOrder nat_cmp (λ (k : KeptRun). k.run) ks → StandOnce (round_of ks)
round_once [] order = tt
round_once (k ∷ ks) order =
    once_at k ks (round_apart k.run ks (pairs_head (λ (a b : KeptRun). nat_cmp a.run b.run ≡ Less) k ks order))
    (round_once ks (pairs_tail (λ (a b : KeptRun). nat_cmp a.run b.run ≡ Less) k ks order)) (may_step k)

-- ---- fetches

number_at : (run : ℕ) (k : KeptRun) (o : Option KeptRun) → IfSome o (λ (k : KeptRun). k.run ≡ run) → (b : Bool) → (k.run == run) ≡ b → IfSome (cond b (Some k) o) (λ (k : KeptRun). k.run ≡ run)
number_at run k o on true is = grind (arith, nat_tests)
number_at run k o on false is = on

-- what is found has the number that was looked for
pub kept_number : (run : ℕ) (ks : List KeptRun) → IfSome (run_kept run ks) (λ (k : KeptRun). k.run ≡ run)
kept_number run [] = tt
kept_number run (k ∷ ks) = number_at run k (run_kept run ks) (kept_number run ks) (k.run == run) refl

number_flagged : (d : Duty) (o : Option KeptRun) → IfSome o (λ (k : KeptRun). k.run ≡ d.run)
    → IfSome (option_map (λ (k : KeptRun). record k { aborting = d.aborting; paused = d.paused }) o) (λ (k : KeptRun). k.run ≡ d.run)
number_flagged d None h = tt
number_flagged d (Some k) h = h

shown_number : (fetch : ℕ) (ks : List KeptRun) (d : Duty) (work : Option Work) → IfSome (kept_of fetch ks d work) (λ (k : KeptRun). k.run ≡ d.run)
shown_number fetch ks d (Some work) = refl
shown_number fetch ks d None = number_flagged d (run_kept d.run ks) (kept_number d.run ks)

after_at : (run : ℕ) (d : Duty) (ks : List KeptRun) → nat_cmp run d.run ≡ Less → All (λ (k : KeptRun). nat_cmp run k.run ≡ Less) ks
    → (o : Option KeptRun) → IfSome o (λ (k : KeptRun). k.run ≡ d.run) → All (λ (k : KeptRun). nat_cmp run k.run ≡ Less) (cons_option o ks)
after_at run d ks less rest None h = rest
after_at run d ks less rest (Some k) h = All-cons (λ (k : KeptRun). nat_cmp run k.run ≡ Less) k ks (subst (λ (n : ℕ). nat_cmp run n ≡ Less) (sym h) less) rest

shown_after : (fetch : ℕ) (run : ℕ) (ks : List KeptRun) (ds : List Duty) → All (λ (d : Duty). nat_cmp run d.run ≡ Less) ds → All (λ (k : KeptRun). nat_cmp run k.run ≡ Less) (kept_after fetch ks ds)
shown_after fetch run ks [] all = All-nil (λ (k : KeptRun). nat_cmp run k.run ≡ Less)
shown_after fetch run ks (d ∷ ds) all =
    after_at run d (kept_after fetch ks ds) (all 0 d (omega arith)) (shown_after fetch run ks ds (All-tail (λ (d : Duty). nat_cmp run d.run ≡ Less) d ds all)) (kept_of fetch ks d d.work) (shown_number fetch ks d d.work)

order_at : (d : Duty) (ks : List KeptRun) → All (λ (k : KeptRun). nat_cmp d.run k.run ≡ Less) ks → IsInOrder nat_cmp (λ (k : KeptRun). k.run) ks
    → (o : Option KeptRun) → IfSome o (λ (k : KeptRun). k.run ≡ d.run) → IsInOrder nat_cmp (λ (k : KeptRun). k.run) (cons_option o ks)
order_at d ks behind rest None h = rest
order_at d ks behind rest (Some k) h =
    AllPairs-cons (λ (a b : KeptRun). nat_cmp a.run b.run ≡ Less) k ks (subst (λ (n : ℕ). All (λ (k : KeptRun). nat_cmp n k.run ≡ Less) ks) (sym h) behind) rest

-- what is kept behind a fetch stands by number, as its duties do
pub shown_in_order : (fetch : ℕ) (ks : List KeptRun) (ds : List Duty) → IsInOrder nat_cmp (λ (d : Duty). d.run) ds → IsInOrder nat_cmp (λ (k : KeptRun). k.run) (kept_after fetch ks ds)
shown_in_order fetch ks [] order = pairs_nil (λ (a b : KeptRun). nat_cmp a.run b.run ≡ Less)
shown_in_order fetch ks (d ∷ ds) order =
    order_at d (kept_after fetch ks ds) (shown_after fetch d.run ks ds (pairs_head (λ (a b : Duty). nat_cmp a.run b.run ≡ Less) d ds order))
    (shown_in_order fetch ks ds (pairs_tail (λ (a b : Duty). nat_cmp a.run b.run ≡ Less) d ds order)) (kept_of fetch ks d d.work) (shown_number fetch ks d d.work)

shown_one : (fetch : ℕ) (ks left : List KeptRun) (d : Duty) → run_kept d.run left ≡ run_kept d.run ks → (work : Option Work) → kept_of fetch ks d work ≡ kept_of fetch left d work
shown_one fetch ks left d same (Some work) = refl
shown_one fetch ks left d same None = ap (option_map (λ (k : KeptRun). record k { aborting = d.aborting; paused = d.paused })) (sym same)

-- what is found of all runs but one is all that the duties of others need
pub shown_same : (fetch : ℕ) (ks left : List KeptRun) (gone : ℕ) → ((run : ℕ) → (run == gone) ≡ false → run_kept run left ≡ run_kept run ks)
    → (ds : List Duty) → All (λ (d : Duty). (d.run == gone) ≡ false) ds → kept_after fetch ks ds ≡ kept_after fetch left ds
shown_same fetch ks left gone same [] all = refl
shown_same fetch ks left gone same (d ∷ ds) all =
    ap (λ (o : Option KeptRun). cons_option o (kept_after fetch ks ds)) (shown_one fetch ks left d (same d.run (all 0 d (omega arith))) d.work)
    ∙ ap (λ (xs : List KeptRun). cons_option (kept_of fetch left d d.work) xs) (shown_same fetch ks left gone same ds (All-tail (λ (d : Duty). (d.run == gone) ≡ false) d ds all))

-- the duties but the last one, and what that one shows
pub shown_last : (fetch : ℕ) (ks : List KeptRun) (ds : List Duty) (d : Duty) → kept_after fetch ks (ds ++ d ∷ []) ≡ kept_after fetch ks ds ++ cons_option (kept_of fetch ks d d.work) []
shown_last fetch ks ds d = filter_map-append (λ (d : Duty). kept_of fetch ks d d.work) ds (d ∷ [])

apart_less : (a b : ℕ) → nat_cmp a b ≡ Less → (a == b) ≡ false
apart_less a b less = grind (arith, nat_tests)

-- the last duty is of another run than the others
pub last_apart : (ds : List Duty) (d : Duty) → IsInOrder nat_cmp (λ (d : Duty). d.run) (ds ++ d ∷ []) → All (λ (e : Duty). (e.run == d.run) ≡ false) ds
last_apart ds d order i e within =
    let first = get_or_append_left ds (d ∷ []) e i within in
    let second = get_or_at ds d [] e (length ds) refl in
    let pair = order i (length ds) e within (omega (arith, length-append ds (d ∷ []))) in
    apart_less (get_or ds i e).run d.run
    (subst (λ (x : Duty). nat_cmp (get_or ds i e).run x.run ≡ Less) second
    (subst (λ (x : Duty). nat_cmp x.run (get_or (ds ++ d ∷ []) (length ds) e).run ≡ Less) first pair))
