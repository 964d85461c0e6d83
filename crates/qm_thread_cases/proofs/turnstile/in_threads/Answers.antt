use Rattle.std.proofs.Common.{◌≡◌, ℕ, ◌∙◌, map, sym, ap, subst, arith}
use Rattle.std.specs.List.{range_with_len, All}
use Rattle.qm_thread_cases.specs.declared.turnstile.Worked.{Worked}
use Rattle.qm_turn.specs.Turns.{Known}
use Rattle.qm_turn.proofs.Gathering.{fresh_places, fresh_numbers, same_numbers}
use Rattle.qm_thread_cases.proofs.turnstile.in_threads.Goals as goal

pub work-requires-after_bounds : goal.work-requires-after_bounds
work-requires-after_bounds g c = λ _ _. subst (λ ps. All (λ (p : Known ℕ). p.place ≡ c.in-Ok.turnstile.place) ps) (sym c.in-Ok.ensures.opened.1) (fresh_places c.in-Ok.turnstile.place (range_with_len 0 c.args.passes))

pub close_all-requires-clause-numbers : goal.close_all-requires-clause-numbers
close_all-requires-clause-numbers g c =
    same_numbers (λ (w : Worked). w.pass.number) (λ (p : Known ℕ). p.number) c.in_ok-worked.worked.items c.in-Ok.list.items c.in_ok-worked.ensures.count (λ i d e h. c.in_ok-worked.ensures.numbers i d e (let l = c.in_ok-worked.ensures.count in omega (arith, l, h)))
    ∙ ap (map (λ (p : Known ℕ). p.number)) c.in-Ok.ensures.opened.1 ∙ fresh_numbers ℕ c.in-Ok.turnstile.place (range_with_len 0 c.args.passes) ∙ ap (range_with_len 0) (sym c.in-Ok.ensures.opened.0)
