-- Records that lead from one system to another.
use Rattle.std.proofs.Common.{◌≡◌, ◌∙◌, List, [], ◌∷◌, ◌++◌, sym, ap, subst}
use Rattle.qm_history.specs.Common.{IsNext, Record, System, after_record}
use Rattle.qm_restore.specs.QueueFile.{LeadTo}
use Rattle.qm_restore.specs.Restoring.{GoesTo, CannotStand}

-- one record more
pub lead_more : (s t u : System) (rs : List Record) (r : Record) → LeadTo s rs t → GoesTo t r u → LeadTo s (rs ++ r ∷ []) u
lead_more s t u [] r lead goes = record {
  stand = (subst (λ (x : System). IsNext x r) (sym lead.leave) goes.0, tt);
  leave = ap (λ (x : System). after_record x r) lead.leave ∙ goes.1;
}
lead_more s t u (q ∷ rs) r lead goes =
    let more = lead_more (after_record s q) t u rs r (record { stand = lead.stand.1; leave = lead.leave }) goes in
    record { stand = (lead.stand.0, more.stand); leave = more.leave }

-- the first of the records leaves a system, from which the others go on
pub first_leads : (s t : System) (r : Record) (rs : List Record) (u : System) → after_record s r ≡ t → LeadTo s (r ∷ rs) u → LeadTo t rs u
first_leads s t r rs u leaves lead = subst (λ (x : System). LeadTo x rs u) leaves (record { stand = lead.stand.1; leave = lead.leave })

-- no records lead on whose first can't stand there
pub first_cannot : (s : System) (r : Record) (rs : List Record) (u : System) → CannotStand s r → LeadTo s (r ∷ rs) u → ⊥
first_cannot s r rs u cannot lead = cannot lead.stand.0
