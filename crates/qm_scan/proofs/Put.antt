-- Entries that are put below their queues.
use Rattle.std.proofs.Common.{◌≡◌, ◌∙◌, ℕ, suc, ◌+◌, ◌==◌, ◌&&◌, ◌<◌, Bool, true, false, if◌then◌else◌, List, [], ◌∷◌, ◌++◌, length, get_or, set, take, map, refl, sym, ap, arith, filter, flat_map, slice_get, Result, Ok, Err, OnErr, OnOk, Some, bytes_eq}
use Rattle.std.proofs.lemmas.Bool.Decides.{nat_tests}
use Rattle.std.proofs.lemmas.List.{get_or-set_same, get_or-set_other, get_or-map, append-nil, map-append}
use Rattle.std.proofs.lemmas.List.Elements.{filter_more}
use Rattle.std.proofs.lemmas.Option.{get_or_from_slice_get}
use Rattle.std.proofs.Math.Bool.{and-true}
use Rattle.qm_model.specs.Common.{Entry, Query, Queue, stands_in}
use Rattle.qm_model.specs.Rows.{is_of_user}
use Rattle.qm_scan.specs.Listed.{is_below}
use Rattle.qm_scan.proofs.Named.{place_within}

-- an element behind the others of the list at a place
module _ {X : Type 0} (groups : List (List X)) (p : ℕ) (x : X) (within : p < length groups) where
  pub put_at : (k : ℕ) (b : Bool) → (k == p) ≡ b
      → get_or (set groups p (get_or groups p [] ++ x ∷ [])) k [] ≡ get_or groups k [] ++ (if b then x ∷ [] else [])
  put_at k true is =
      let same : k ≡ p = grind (arith, nat_tests) in
      rw same (get_or-set_same groups p (get_or groups p [] ++ x ∷ []) [] within)
  put_at k false is =
      get_or-set_other groups p k (get_or groups p [] ++ x ∷ []) [] (grind (arith, nat_tests))
      ∙ sym (append-nil (get_or groups k []))

-- one element more is looked at
pub one_more : {X : Type 0} (p : X → Bool) (xs : List X) (i : ℕ) (x : X) → i < length xs → x ≡ get_or xs i x
    → filter p (take i xs) ++ (if p x then x ∷ [] else []) ≡ filter p (take (i + 1) xs)
one_more p xs i x within is = sym (filter_more p xs i x within ∙ ap (λ y. filter p (take i xs) ++ (if p y then y ∷ [] else [])) (sym is))

-- its row, behind those before it
pub row_more : {X Y : Type 0} (f : X → Y) (p : X → Bool) (xs : List X) (i : ℕ) (x : X) → i < length xs → x ≡ get_or xs i x
    → map f (filter p (take i xs)) ++ (if p x then f x ∷ [] else []) ≡ map f (filter p (take (i + 1) xs))
row_more f p xs i x within is =
    sym (ap (map f) (sym (one_more p xs i x within is)) ∙ map-append f (filter p (take i xs)) (if p x then x ∷ [] else [])
    ∙ ap (λ ys. map f (filter p (take i xs)) ++ ys) (last (p x)))
  where
    last : (b : Bool) → map f (if b then x ∷ [] else []) ≡ (if b then f x ∷ [] else [])
    last true = refl
    last false = refl

-- nothing is put where nothing is to be
pub not_put : {X : Type 0} (xs : List X) (x : X) (b : Bool) → b ≡ false → xs ≡ xs ++ (if b then x ∷ [] else [])
not_put xs x true is = let clash : true ≡ false = is in cc
not_put xs x false is = sym (append-nil xs)

-- what the element at a place became
pub mapped_at : {X Y : Type 0} (f : X → Y) (xs : List X) (ys : List Y) → ys ≡ map f xs → (k : ℕ) (x : X) (y : Y) → slice_get xs k ≡ Some x → get_or ys k y ≡ f x
mapped_at f xs ys are k x y there =
    ap (λ zs. get_or zs k y) are ∙ get_or-map f xs k x y (place_within xs k x there) ∙ ap f (get_or_from_slice_get xs k x x there)

-- what is so where there is a value
pub where_ok : {T E P Q : Type 0} (r : Result T E) → (P → Q) → OnOk r P → OnOk r Q
where_ok (Ok x) next is = next is
where_ok (Err e) next is = tt

-- one entry more, below a queue
pub queue_more : {X Y : Type 0} (top : Y) (f : X → Y) (p : X → Bool) (listed : Bool) (xs : List X) (i : ℕ) (x : X) → i < length xs → x ≡ get_or xs i x
    → (if listed then top ∷ map f (filter p (take i xs)) else []) ++ (if listed && p x then f x ∷ [] else [])
    ≡ (if listed then top ∷ map f (filter p (take (i + 1) xs)) else [])
queue_more top f p true xs i x within is = ap (λ ys. top ∷ ys) (row_more f p xs i x within is)
queue_more top f p false xs i x within is = refl

-- what is put at a place alone, where its element is listed
pub put_there : (at listed below : Bool) → at ≡ below → (at ≡ true → listed ≡ true) → at ≡ (listed && below)
put_there true true below is so = is
put_there true false below is so = let clash : false ≡ true = so refl in cc
put_there false true below is so = is
put_there false false below is so = refl

-- what is put nowhere, where the element of its place isn't listed
pub put_nowhere : (at listed below : Bool) → at ≡ below → (at ≡ true → listed ≡ false) → (listed && below) ≡ false
put_nowhere true true below is so = let clash : true ≡ false = so refl in cc
put_nowhere true false below is so = refl
put_nowhere false true below is so = sym is
put_nowhere false false below is so = refl

-- what stands only where an element is listed
pub listed_alone : {X Y : Type 0} (f : X → List Y) (p : X → Bool) (xs : List X) → flat_map (λ x. if p x then f x else []) xs ≡ flat_map f (filter p xs)
listed_alone f p [] = refl
listed_alone f p (x ∷ xs) = told (p x) refl (listed_alone f p xs)
  where
    told : (b : Bool) → p x ≡ b → flat_map (λ y. if p y then f y else []) xs ≡ flat_map f (filter p xs)
        → flat_map (λ y. if p y then f y else []) (x ∷ xs) ≡ flat_map f (filter p (x ∷ xs))
    told true is others = rw is (ap (λ ys. f x ++ ys) others)
    told false is others = rw is others

-- lists of which each is what the element at its place makes
pub joined : {X Y : Type 0} (f : X → List Y) (xs : List X) (groups : List (List Y)) → length groups ≡ length xs
    → ((k : ℕ) (x : X) → slice_get xs k ≡ Some x → get_or groups k [] ≡ f x) → flat_map (λ g. g) groups ≡ flat_map f xs
joined f [] [] same each = refl
joined f [] (g ∷ gs) same each = absurd (omega (arith, same))
joined f (x ∷ xs) [] same each = absurd (omega (arith, same))
joined f (x ∷ xs) (g ∷ gs) same each =
    ap (λ ys. ys ++ flat_map (λ g. g) gs) (each 0 x refl)
    ∙ ap (λ ys. f x ++ ys) (joined f xs gs (omega (arith, same)) (λ k y there. each (suc k) y there))

-- an entry of a listed user is listed below the queue of the name where it stands
pub below_there : (q : Query) (e : Entry) (queue : Queue) (name : List ℕ) (at : Bool) → is_of_user q.user e ≡ true → name ≡ stands_in e → bytes_eq name queue.name ≡ at
    → at ≡ is_below q queue e
below_there q e queue name at of_user named is =
    sym (ap (λ (u : Bool). bytes_eq (stands_in e) queue.name && u) of_user
    ∙ and-true (bytes_eq (stands_in e) queue.name)
    ∙ ap (λ (n : List ℕ). bytes_eq n queue.name) (sym named)
    ∙ is)

-- what is so anyway
pub anyway : {T E P : Type 0} (r : Result T E) → P → OnErr r P
anyway (Ok x) is = tt
anyway (Err e) is = is
