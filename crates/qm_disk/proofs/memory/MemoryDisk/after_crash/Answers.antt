use Rattle.std.proofs.Common.{◌∙◌, ◌≡◌, sym, subst, ℕ}
use Rattle.qm_disk.specs.Memory.{held_of, left_of, crash_of}
use Rattle.qm_disk.proofs.Picked.{crash_is_left, of_three}
use Rattle.qm_disk.proofs.memory.MemoryDisk.after_crash.Goals as goal

pub returns-clause-allowed : goal.returns-clause-allowed
returns-clause-allowed c =
    let disk = c.args.self.now in
    let pick : ℕ = c.args.pick in
    let allowed : (f : ℕ) → held_of c.new-2.result f ≡ crash_of disk pick f → left_of disk f (held_of c.new-2.result f) =
    λ f is. subst (left_of disk f) (sym is) (crash_is_left disk.first disk.calls.items pick f) in
    let master : held_of c.new-2.result 0 ≡ crash_of disk pick 0 = c.new-2.ensures.master ∙ c.in_ok-master.ensures in
    let one : held_of c.new-2.result 1 ≡ crash_of disk pick 1 = c.new-2.ensures.one ∙ c.in_ok-one.ensures in
    let two : held_of c.new-2.result 2 ≡ crash_of disk pick 2 = c.new-2.ensures.two ∙ c.in_ok-two.ensures in
    of_three (λ f. left_of disk f (held_of c.new-2.result f)) (allowed 0 master) (allowed 1 one) (allowed 2 two)
