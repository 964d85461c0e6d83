use Rattle.std.proofs.Common.{◌≡◌, ◌∙◌, Option, None, refl, sym, subst, option_map}
use Rattle.qm_model.specs.Common.{Entry, Refusal}
use Rattle.qm_kinds.specs.declared.refusal.Holder.TheVariants as holder
use Rattle.qm_kinds.specs.declared.refusal.Refusal.TheVariants.{Referenced}
use Rattle.qm_tables.proofs.SpoolCounting.{none_names_it}
use Rattle.qm_image.specs.Image.{system_of}
use Rattle.qm_making.proofs.deciding.append.refused_as_named.Goals as goal

pub returns-then-count-eq0 : goal.returns-then-count-eq0
unfolding system_of
returns-then-count-eq0 c =
    subst (λ (found : Option Entry). ◌≡◌ {A = Option Refusal} None (option_map (λ (e : Entry). Referenced (holder.Entry e.number)) found))
    (sym (none_names_it c.args.name.now c.args.image.now.spool.counts c.args.image.now.parts.entries c.args.image.now.counted (sym c.count.ensures.count ∙ c.if-count-eq0.true)))
    refl
