use Rattle.std.proofs.Common.{arith, ◌≡◌, ◌<◌, ◌≤◌, ◌++◌, ◌∷◌, ◌∙◌, [], append-nil, length, refl, sym, subst, rules}
use Rattle.std.specs.List.{AllByRecursion}
use Rattle.qm_cluster.specs.Gathered.{text_at, text_left}
use Rattle.qm_cluster.specs.Through.{is_at}
use Rattle.qm_cluster.proofs.Closing.{all_gathered, all_texts, knows_all, latter, some_there}
use Rattle.qm_cluster.proofs.Sequences.{one_joined, one_moved, one_text, taken_first}
use Rattle.qm_cluster.proofs.join.join_all.Goals as goal

pub remove-pass-requires : goal.remove-pass-requires
remove-pass-requires g c =
    let some = some_there (λ s. s.pass.number) c.args.seats.items c.args.turnstile.passes c.requires.numbers c.requires.some in
    let same = c.args.seats.ok.0 in
    omega (arith, same, some)

pub seats-init : goal.seats-init
seats-init g c =
    let some : 0 < length c.args.seats.items = search rules in
    let first = taken_first c.args.seats.items c.remove-pass.new.self.items c.remove-pass.result some c.remove-pass.ensures.value c.remove-pass.ensures.by_index.2 in
    let all = subst (AllByRecursion (λ s. (s.pass.place ≡ c.args.turnstile.place) × (s.pass.took ≡ []))) first c.requires.here in
    (all.0.0, search rules, all.1, ([], refl, refl, sym (append-nil _)))

pub seats-preserved : goal.seats-preserved
seats-preserved g c =
    let inv = c.seats.invariant in
    let seat = c.remove-other.result in
    let left = c.remove-other.new.self.items in
    let some : 0 < length c.seats.seats.items = search rules in
    let next = taken_first c.seats.seats.items left seat some c.remove-other.ensures.value c.remove-other.ensures.by_index.2 in
    let all = subst (AllByRecursion (λ s. (s.pass.place ≡ c.args.turnstile.place) × (s.pass.took ≡ []))) next inv.2 in (
      c.join.ensures.place ∙ inv.0,
      search rules,
      all.1,
      (
        inv.3.0 ++ seat ∷ [],
        one_moved (λ s. s.pass) c.remove-pass.new.self.items inv.3.0 c.seats.seats.items left seat inv.3.1 next,
        one_joined (λ s. s.pass) c.remove-pass.new.self.items inv.3.0 c.seats.seats.items left seat inv.3.1 next c.remove-pass.result.pass c.seats.pass c.join.new.into inv.3.2 c.join.ensures,
        one_text (λ s. text_at (is_at s)) text_left c.push_reserved.new.self.items c.seats.texts.items c.push_reserved-in-seats.new.self.items _ inv.3.0 seat inv.3.3 c.push_reserved-in-seats.ensures.items refl,
      ),
    )

pub close-requires-clause-last : goal.close-requires-clause-last
close-requires-clause-last g c =
    let inv = c.seats.invariant in
    let some : 0 < length c.args.seats.items = search rules in
    let empty : length c.seats.seats.items ≤ 0 = search rules in
    let first = taken_first c.args.seats.items c.remove-pass.new.self.items c.remove-pass.result some c.remove-pass.ensures.value c.remove-pass.ensures.by_index.2 in
    knows_all (λ s. s.pass) c.args.seats.items c.remove-pass.new.self.items inv.3.0 c.seats.seats.items c.remove-pass.result c.seats.pass first inv.3.1 empty inv.3.2
    (latter (λ s. s.pass.place ≡ c.args.turnstile.place) (λ s. s.pass.took ≡ []) c.args.seats.items c.requires.here) c.args.turnstile.passes c.requires.numbers

pub returns-clause-gathered : goal.returns-clause-gathered
returns-clause-gathered g c =
    let inv = c.seats.invariant in
    let some : 0 < length c.args.seats.items = search rules in
    let empty : length c.seats.seats.items ≤ 0 = search rules in
    let first = taken_first c.args.seats.items c.remove-pass.new.self.items c.remove-pass.result some c.remove-pass.ensures.value c.remove-pass.ensures.by_index.2 in
    all_gathered (λ s. s.pass) c.args.seats.items c.remove-pass.new.self.items inv.3.0 c.seats.seats.items c.remove-pass.result c.seats.pass first inv.3.1 empty inv.3.2
    (latter (λ s. s.pass.place ≡ c.args.turnstile.place) (λ s. s.pass.took ≡ []) c.args.seats.items c.requires.here) c.args.turnstile.passes c.requires.numbers
    _ c.close.result c.close.ensures

pub returns-clause-texts : goal.returns-clause-texts
returns-clause-texts g c =
    let inv = c.seats.invariant in
    let some : 0 < length c.args.seats.items = search rules in
    let empty : length c.seats.seats.items ≤ 0 = search rules in
    let first = taken_first c.args.seats.items c.remove-pass.new.self.items c.remove-pass.result some c.remove-pass.ensures.value c.remove-pass.ensures.by_index.2 in
    all_texts (λ s. text_at (is_at s)) text_left c.args.seats.items c.remove-pass.new.self.items inv.3.0 c.seats.seats.items c.remove-pass.result _ c.args.texts.items c.push_reserved.new.self.items c.seats.texts.items
    c.requires.none c.push_reserved.ensures.items refl inv.3.3 first inv.3.1 empty
