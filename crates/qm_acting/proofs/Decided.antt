-- What the record of a request that was decided on is to what image and files stand for.
use Rattle.std.proofs.Common.{◌≡◌, ◌∙◌, ◌<◌, ◌≤◌, ◌^◌, ℕ, List, length, Ok, Err, sym, ap, subst, arith}
use Rattle.qm_history.specs.Common.{Meaning, CanFollow, Reply, Request, System}
use Rattle.qm_store.specs.Recorded.{with_body}
use Rattle.qm_restore.specs.QueueFile.{IsSiteFile}
use Rattle.qm_image.specs.Preparing.{made}
use Rattle.qm_image.specs.declared.image.Image.{Image}
use Rattle.qm_acting.specs.Asking.{text_of, need_with, CanBeAsked, Does, Lacks, IsInDoubt, Writes}
use Rattle.qm_acting.specs.Deciding.{standing_with, Decides, Records}
use Rattle.qm_acting.specs.Standing.{Standing, StandsFor}
use Rattle.qm_acting.specs.declared.decision.Decision.{Decision}
use Rattle.qm_acting.specs.declared.fault.RecordFault.TheVariants.{Full, Disk}
use Rattle.qm_acting.proofs.Following.{follows, goes_on_so}

module _ (old : Standing) (moment node : ℕ) (asked : Request) (image : Image) (decision : Decision) (can : CanBeAsked old.system moment node asked)
    (decides : Decides old.system moment node asked image decision)
  where
    text_is : decision.body.items ≡ text_of moment node asked
    text_is = decides.spells.is

    next : CanFollow old.system moment node asked
    next = follows old.system moment node asked (made decision.prepared old.system) can decides.spells.fits decides.accepted

    short : length (text_of moment node asked) < 2 ^ 63
    short =
        let few : length decision.body.items < 2 ^ 63 = omega (arith, decision.body.ok.0, decision.body.ok.1, decision.body.small) in
        subst (λ (t : List ℕ). length t < 2 ^ 63) text_is few

    -- the files stand for what is made
    pub site_with : IsSiteFile old.recorded.bodies old.system → IsSiteFile (standing_with old decision).recorded.bodies (standing_with old decision).system
    site_with site =
        goes_on_so old.recorded.bodies old.system moment node asked (made decision.prepared old.system) decision.body.items site next decides.accepted text_is

    within : need_with old.recorded decision.body.items ≤ old.recorded.says.cap → need_with old.recorded (text_of moment node asked) ≤ old.recorded.says.cap
    within room = subst (λ (t : List ℕ). need_with old.recorded t ≤ old.recorded.says.cap) text_is room

    pub done_so : (new : Standing) (reply : Reply) → Records decision old new (Ok reply) → Does old moment node asked new reply
    done_so new reply told = record {
      follows = next;
      accepted = decides.accepted ∙ ap Ok told.1;
      room = within told.0;
      recorded = told.2 ∙ ap (with_body old.recorded) text_is;
    }

    pub lacks_so : (new : Standing) (need cap : ℕ) → Records decision old new (Err (Full need cap)) → Lacks old moment node asked need cap
    lacks_so new need cap told = record { follows = next; short = short; over = told.0; need_is = told.1 ∙ ap (need_with old.recorded) text_is; cap_is = told.2 }

    pub doubt_so : (new : Standing) → Records decision old new (Err Disk) → IsInDoubt old moment node asked
    doubt_so new told = record { follows = next; room = within told.0 }

    pub writes_so : {D : Type 0} (m : Meaning D) (before after : D) → Writes m old.recorded decision.body.items before after → Writes m old.recorded (text_of moment node asked) before after
    writes_so m before after writes = subst (λ (t : List ℕ). Writes m old.recorded t before after) text_is writes

    -- and so they do where memory was taken meanwhile
    pub site_behind : (mid : Standing) → mid ≡ old → IsSiteFile old.recorded.bodies old.system
        → IsSiteFile (standing_with mid decision).recorded.bodies (standing_with mid decision).system
    site_behind mid same site =
        subst (λ (st : Standing). IsSiteFile (standing_with st decision).recorded.bodies (standing_with st decision).system) (sym same) (site_with site)

    pub writes_behind : {D : Type 0} (m : Meaning D) (mid : Standing) (before between after : D) → mid ≡ old → between ≡ before
        → Writes m mid.recorded decision.body.items between after → Writes m old.recorded (text_of moment node asked) before after
    writes_behind m mid before between after same same_disk writes =
        writes_so m before after
        (subst (λ d. Writes m old.recorded decision.body.items d after) same_disk (subst (λ (st : Standing). Writes m st.recorded decision.body.items between after) same writes))

-- an image with the same rows stands for the same
pub same_system : (old : Standing) (s : System) → s ≡ old.system → record { system = s; recorded = old.recorded } ≡ old
same_system old s same = ap (λ (x : System). record { system = x; recorded = old.recorded }) same

-- what was ready is, where nothing has changed
pub ready_on : {D : Type 0} (m : Meaning D) (old new : Standing) (before after : D) → new ≡ old → after ≡ before → StandsFor m old before → StandsFor m new after
ready_on m old new before after same same_disk ready =
    subst (λ d. StandsFor m new d) (sym same_disk) (subst (λ (st : Standing). StandsFor m st before) (sym same) ready)
