use Rattle.std.proofs.Common.{◌≡◌, ◌∙◌, ◌==◌, ◌&&◌, ℕ, true, false, [], get_or, sym, ap, arith, slice_get, Some}
use Rattle.std.proofs.lemmas.Bool.Decides.{nat_tests}
use Rattle.qm_kinds.specs.declared.query.Row.TheVariants as row
use Rattle.qm_kinds.specs.declared.queue.Queue.{Queue}
use Rattle.qm_scan.specs.Listed.{is_below, is_queue_listed}
use Rattle.qm_scan.proofs.Put.{below_there, mapped_at, not_put, put_at, put_nowhere, put_there, where_ok}
use Rattle.qm_scan.proofs.below.put_below.Goals as goal

pub returns-then-shown-place-clause-put : goal.returns-then-shown-place-clause-put
returns-then-shown-place-clause-put c = where_ok c.put_in.result (λ set k queue there.
    rw set (put_at c.args.groups.now.items c.in-Some.place (row.Entry c.args.entry.now) (omega (arith, c.requires.count, c.in-Some.ensures.within)) k
    (is_queue_listed c.args.query.now queue && is_below c.args.query.now queue c.args.entry.now)
    (put_there (k == c.in-Some.place) (is_queue_listed c.args.query.now queue) (is_below c.args.query.now queue c.args.entry.now) (here k queue there) (listed k queue there))))
    c.put_in.ensures.put
  where
    here : (k : ℕ) (queue : Queue) → slice_get c.args.queues.now k ≡ Some queue → (k == c.in-Some.place) ≡ is_below c.args.query.now queue c.args.entry.now
    here k queue there =
        below_there c.args.query.now c.args.entry.now queue c.stands_in.result.now (k == c.in-Some.place) (sym c.is_of_user.ensures ∙ c.if-not-is_of_user.false) c.stands_in.ensures
        (c.in-Some.ensures.named k queue there)

    listed : (k : ℕ) (queue : Queue) → slice_get c.args.queues.now k ≡ Some queue → (k == c.in-Some.place) ≡ true → is_queue_listed c.args.query.now queue ≡ true
    listed k queue there at =
        let same : k ≡ c.in-Some.place = grind (arith, nat_tests) in
        sym (mapped_at (is_queue_listed c.args.query.now) c.args.queues.now c.args.shown.now c.requires.shown k queue false there)
        ∙ ap (λ (i : ℕ). get_or c.args.shown.now i false) same ∙ c.if-shown-place.true

pub returns-else-shown-place-clause-put : goal.returns-else-shown-place-clause-put
returns-else-shown-place-clause-put c = λ k queue there.
    not_put (get_or c.args.groups.now.items k []) (row.Entry c.args.entry.now) (is_queue_listed c.args.query.now queue && is_below c.args.query.now queue c.args.entry.now)
    (put_nowhere (k == c.in-Some.place) (is_queue_listed c.args.query.now queue) (is_below c.args.query.now queue c.args.entry.now) (here k queue there) (hidden k queue there))
  where
    here : (k : ℕ) (queue : Queue) → slice_get c.args.queues.now k ≡ Some queue → (k == c.in-Some.place) ≡ is_below c.args.query.now queue c.args.entry.now
    here k queue there =
        below_there c.args.query.now c.args.entry.now queue c.stands_in.result.now (k == c.in-Some.place) (sym c.is_of_user.ensures ∙ c.if-not-is_of_user.false) c.stands_in.ensures
        (c.in-Some.ensures.named k queue there)

    hidden : (k : ℕ) (queue : Queue) → slice_get c.args.queues.now k ≡ Some queue → (k == c.in-Some.place) ≡ true → is_queue_listed c.args.query.now queue ≡ false
    hidden k queue there at =
        let same : k ≡ c.in-Some.place = grind (arith, nat_tests) in
        sym (mapped_at (is_queue_listed c.args.query.now) c.args.queues.now c.args.shown.now c.requires.shown k queue false there)
        ∙ ap (λ (i : ℕ). get_or c.args.shown.now i false) same ∙ c.if-shown-place.false
