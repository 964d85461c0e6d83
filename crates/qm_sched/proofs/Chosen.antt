-- What a queue starts, and when it starts nothing.
use Rattle.std.proofs.Common.{◌≡◌, Bool, true, false, not, cond, ◌&&◌, refl, ◌∙◌, ap, None, Some, option_map}
use Rattle.qm_model.specs.Common.{Entry, Queue, System, fits, is_of_kind, is_open, is_reached, has_characteristics, has_stock, has_size, is_pending, is_generic, is_same_kind, job_kind, first_of, is_free, next_job, has_run_numbers, start_of}
use Rattle.qm_parts.proofs.Fits.{closed, nothing_passes}
use Rattle.qm_sched.specs.Choosing.{next_start}

no_start : (s : System) (q : Queue) (b : Bool) → next_job s q ≡ None → cond b (option_map (λ e. start_of s (record { entry = e; queue = q })) (next_job s q)) None ≡ None
no_start s q true none = ap (option_map (λ e. start_of s (record { entry = e; queue = q }))) none
no_start s q false none = refl

pub closed_starts_nothing : (s : System) (q : Queue) → is_open s q ≡ false → next_start s q ≡ None
closed_starts_nothing s q is =
    let never : (e : Entry) → fits s e q ≡ false =
    λ e. closed (is_pending e.state) (is_of_kind e q) (is_open s q) (is_reached s e q) (has_characteristics e q) (has_stock s e q) (has_size e q) is in
    no_start s q (has_run_numbers s && is_free s q) (ap (first_of q) (nothing_passes (λ e. fits s e q) s.entries never))

-- a generic queue starts none
other_kind : (a b c d e f g : Bool) → b ≡ false → (a && b && c && d && e && f && g) ≡ false
other_kind false b c d e f g is = refl
other_kind true b c d e f g is = ap (λ x. x && c && d && e && f && g) is

generic_kind : (e : Entry) (q : Queue) → not (is_generic q.kind) ≡ false → is_of_kind e q ≡ false
generic_kind e q is = ap (λ (b : Bool). b && is_same_kind e.kind (job_kind q.kind)) is

pub generic_starts_nothing : (s : System) (q : Queue) → not (is_generic q.kind) ≡ false → next_start s q ≡ None
generic_starts_nothing s q is =
    let never : (e : Entry) → fits s e q ≡ false =
    λ e. other_kind (is_pending e.state) (is_of_kind e q) (is_open s q) (is_reached s e q) (has_characteristics e q) (has_stock s e q) (has_size e q) (generic_kind e q is) in
    no_start s q (has_run_numbers s && is_free s q) (ap (first_of q) (nothing_passes (λ e. fits s e q) s.entries never))

pub full_starts_nothing : (s : System) (q : Queue) → (has_run_numbers s && is_free s q) ≡ false → next_start s q ≡ None
full_starts_nothing s q is = ap (λ b. cond b (option_map (λ e. start_of s (record { entry = e; queue = q })) (next_job s q)) None) is

pub nothing_fits : (s : System) (q : Queue) → next_job s q ≡ None → next_start s q ≡ None
nothing_fits s q none = no_start s q (has_run_numbers s && is_free s q) none

pub first_starts : (s : System) (q : Queue) (e : Entry) → (has_run_numbers s && is_free s q) ≡ true → next_job s q ≡ Some e
    → next_start s q ≡ Some (start_of s (record { entry = e; queue = q }))
first_starts s q e is job =
    ap (λ b. cond b (option_map (λ d. start_of s (record { entry = d; queue = q })) (next_job s q)) None) is
    ∙ ap (option_map (λ d. start_of s (record { entry = d; queue = q }))) job
