-- An accepted log begins with the rows of its image, and goes on with requests.
use Rattle.std.proofs.Common.{◌≡◌, ◌∙◌, ◌+◌, ◌<◌, ◌≤◌, ℕ, Ok, Bool, true, false, cond, List, [], ◌∷◌, ◌++◌, length, map, take, drop, get_or, refl, sym, ap, subst, arith}
use Rattle.std.specs.List.{All, AllByRecursion, prefix_len}
use Rattle.std.proofs.lemmas.List.{drop_at, drop_more, take-append-drop, take_all, take_at, take_more}
use Rattle.std.proofs.lemmas.List.Elements.{All-from_recursion}
use Rattle.std.proofs.lemmas.List.Sums.{prefix_len-le-length}
use Rattle.qm_history.specs.Common.{Record, Body, System, Request, applied, IsConsistent, after_record, no_system, replayed, system_of, IsLawful, image_of, row, Accepted, is_row, AreNext, CanStandBehind, IsAccepted, IsNext}
use Rattle.qm_kinds.specs.declared.record.Body.TheVariants as body
use Rattle.qm_history.proofs.LogLemmas.{image_stands, next_consistent, replayed_append}

abbrev pub IsRowOf : Record → Type 0
IsRowOf r = is_row r.body ≡ true

abbrev test : Record → Bool
test r = is_row r.body

front_at : (r : Record) (xs ys : List Record) → test r ≡ true → (b : Bool) → test r ≡ b → prefix_len test (xs ++ ys) ≡ length xs + prefix_len test ys
    → cond b (1 + prefix_len test (xs ++ ys)) 0 ≡ length (r ∷ xs) + prefix_len test ys
front_at r xs ys is true same so = omega (arith, so)
front_at r xs ys is false same so = absurd cc

-- rows in front of others are counted
front : (xs ys : List Record) → AllByRecursion IsRowOf xs → prefix_len test (xs ++ ys) ≡ length xs + prefix_len test ys
front [] ys rows = omega arith
front (r ∷ xs) ys rows = front_at r xs ys rows.0 (test r) refl (front xs ys rows.1)

-- behind an image stands no row
none_body : (s : System) (moment node : ℕ) (b : Body) → CanStandBehind s moment node b → is_row b ≡ false
none_body s moment node (body.Ask asked) can = refl
none_body s moment node (body.Head nodes may next_entry next_run last) can = absurd can
none_body s moment node (body.Form f) can = absurd can
none_body s moment node (body.Characteristic c) can = absurd can
none_body s moment node (body.File f) can = absurd can
none_body s moment node (body.Queue q) can = absurd can
none_body s moment node (body.Entry e) can = absurd can

none : (s : System) (requests : List Record) → AreNext s requests → prefix_len test requests ≡ 0
none s [] next = refl
none s (r ∷ requests) next = ap (λ (b : Bool). cond b (1 + prefix_len test requests) 0) (none_body s r.moment r.node r.body next.0)

-- ---- an image is rows

each_row : {X : Type 0} (to_body : X → Body) → ((x : X) → is_row (to_body x) ≡ true) → (xs : List X) (more : List Record) → AllByRecursion IsRowOf more
    → AllByRecursion IsRowOf (map (λ (x : X). row (to_body x)) xs ++ more)
each_row to_body is [] more rows = rows
each_row to_body is (x ∷ xs) more rows = (is x, each_row to_body is xs more rows)

last_rows : {X : Type 0} (to_body : X → Body) → ((x : X) → is_row (to_body x) ≡ true) → (xs : List X) → AllByRecursion IsRowOf (map (λ (x : X). row (to_body x)) xs)
last_rows to_body is [] = tt
last_rows to_body is (x ∷ xs) = (is x, last_rows to_body is xs)

pub image_rows : (s : System) → AllByRecursion IsRowOf (image_of s)
image_rows s = (
  refl,
  each_row (λ f. body.Form f) (λ f. refl) s.forms _
      (each_row (λ c. body.Characteristic c) (λ c. refl) s.characteristics _
      (each_row (λ f. body.File f) (λ f. refl) s.files _
      (each_row (λ q. body.Queue q) (λ q. refl) s.queues _ (last_rows (λ e. body.Entry e) (λ e. refl) s.entries)))),
)

-- ---- the log

pub rows_counted : (log : List Record) (h : IsAccepted log) → prefix_len test log ≡ length (image_of h.image)
rows_counted log h =
    ap (λ (rs : List Record). prefix_len test rs) h.whole
    ∙ front (image_of h.image) h.requests (image_rows h.image)
    ∙ ap (λ (n : ℕ). length (image_of h.image) + n) (none h.image h.requests h.next)
    ∙ omega arith

-- ---- the log is replayed

pub next_row : (s : System) (rows : List Record) (i : ℕ) (r : Record) (old new : System) → i < length rows → r ≡ get_or rows i r → old ≡ replayed s (take i rows)
    → new ≡ after_record old r → new ≡ replayed s (take (i + 1) rows)
next_row s rows i r old new within is so made =
    made ∙ ap (λ (x : System). after_record x r) so ∙ sym (replayed_append s (take i rows) (r ∷ []))
    ∙ ap (λ (x : Record). replayed s (take i rows ++ x ∷ [])) is ∙ ap (λ (rs : List Record). replayed s rs) (sym (take_more rows i r within))

-- so many of the items that stand behind the rows of a log were replayed
pub record Begun (log items : List Record) (n i : ℕ) (s : System) : Type 0 where
  pub at : s ≡ replayed (system_of (take n log)) (take i items)
  pub sound : IsConsistent s
  pub next : AreNext s (drop i items)

module _ (log : List Record) (h : IsAccepted log) (n : ℕ) (counted : n ≡ prefix_len test log) where
  size : length (image_of h.image) ≡ n
  size = sym (counted ∙ rows_counted log h)

  front_is : take n log ≡ image_of h.image
  front_is = ap (λ (rs : List Record). take n rs) h.whole ∙ take_at (image_of h.image) h.requests n size

  back_is : drop n log ≡ h.requests
  back_is = ap (λ (rs : List Record). drop n rs) h.whole ∙ drop_at (image_of h.image) h.requests n size

  pub front_rows : All IsRowOf (take n log)
  front_rows = subst (λ (rs : List Record). All IsRowOf rs) (sym front_is) (All-from_recursion IsRowOf (image_of h.image) (image_rows h.image))

  pub front_system : system_of (take n log) ≡ h.image
  front_system = ap system_of front_is ∙ image_stands h.image

  pub front_consistent : IsConsistent (system_of (take n log))
  front_consistent = subst IsConsistent (sym front_system) h.consistent

  pub begun : (s : System) (items : List Record) → items ≡ drop n log → s ≡ system_of (take n log) → Begun log items n 0 s
  begun s items are is = record {
    at = is;
    sound = subst IsConsistent (sym is) front_consistent;
    next = subst (λ (rs : List Record). AreNext s rs) (sym (are ∙ back_is))
        (subst (λ (x : System). AreNext x h.requests) (sym (is ∙ front_system)) h.next);
  }

  pub within_log : n ≤ length log
  within_log = rw counted (prefix_len-le-length test log)

module _ (log items : List Record) (n i : ℕ) (s : System) (h : Begun log items n i s) where
  pub next_begun : (r : Record) → i < length items → r ≡ get_or items i r → IsNext s r
  next_begun r within is =
      let next : AreNext s (get_or items i r ∷ drop (i + 1) items) = subst (λ (rs : List Record). AreNext s rs) (drop_more items i r within) h.next in
      subst (λ (x : Record). IsNext s x) (sym is) next.0

  pub more_begun : (keeps : (s : System) (now node : ℕ) (asked : Request) (a : Accepted) → IsConsistent s → IsLawful s node asked → applied s now node asked ≡ Ok a → IsConsistent a.system)
      → (r : Record) (t : System) → i < length items → r ≡ get_or items i r → t ≡ after_record s r → Begun log items n (i + 1) t
  more_begun keeps r t within is made =
      let next : AreNext s (get_or items i r ∷ drop (i + 1) items) = subst (λ (rs : List Record). AreNext s rs) (drop_more items i r within) h.next in
      record {
        at = next_row (system_of (take n log)) items i r s t within is h.at made;
        sound = subst IsConsistent (sym made) (next_consistent keeps s r (next_begun r within is) h.sound);
        next = subst (λ (x : System). AreNext x (drop (i + 1) items)) (sym (made ∙ ap (λ (x : Record). after_record s x) is)) next.1;
      }

  pub all_begun : length items ≤ i → items ≡ drop n log → s ≡ system_of log
  all_begun past are =
      h.at ∙ ap (λ (rs : List Record). replayed (system_of (take n log)) rs) (take_all i items past ∙ are) ∙ sym (replayed_append no_system (take n log) (drop n log))
      ∙ ap system_of (take-append-drop n log)
