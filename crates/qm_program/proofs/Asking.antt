-- What the program promises, where memory ran out before it was known what the words ask for, and where a site is listed.
use Rattle.std.proofs.Common.{◌≡◌, ◌⊎◌, inl, inr, ⊎_elim, ℕ, List, [], Option, None, Some, IsTrue, refl, sym, subst}
use Rattle.qm_acting.proofs.Spare.{keeps_same}
use Rattle.qm_disk.proofs.Moments.{looks_not}
use Rattle.qm_disk.specs.Disk.{CrashState, IsLeft, Meaning}
use Rattle.qm_node.specs.Sides.{Side}
use Rattle.qm_serving.specs.Serving.{Outside, outside}
use Rattle.qm_symb.specs.Device as symb
use Rattle.qm_program.specs.Causes.{Counts, HasCause}
use Rattle.qm_program.specs.Doing.{AsksToServe, Does, DoesTask, IsWithoutFault, SpareStays}
use Rattle.qm_program.specs.Reading.{AreSite}
use Rattle.qm_program.specs.Showing.{Shows, ShowsTo}
use Rattle.qm_program.specs.declared.outcome.End.{End}
use Rattle.qm_program.specs.declared.outcome.End.TheVariants as ends
use Rattle.qm_program.specs.declared.task.Task.{Task}
use Rattle.qm_program.specs.declared.task.Task.TheVariants.{Run, Cluster, Show, Init}
use Rattle.qm_program.proofs.NewSite.{nothing_made}

-- nothing was touched, whatever they ask for
pub untouched : {D Y S : Type 0} (m : Meaning D) (y : symb.Meaning Y) → ((disk : D) (crashed : CrashState) → m.left_since disk (m.moment disk) crashed → IsLeft (m.may_leave disk) crashed)
    → (remaining : S → Option (List ℕ)) (asked : Option Task) (source : S) (o : Outside D Y) → Does m y remaining asked source source [] o o ends.NoMemory
untouched m y only_now remaining None source o = (refl, refl, refl)
untouched m y only_now remaining (Some Run) source o = (inl refl, inl (refl, refl))
untouched m y only_now remaining (Some Cluster) source o = (inl refl, inl (refl, refl))
untouched m y only_now remaining (Some Show) source o = (refl, refl, refl, record { leaves = refl; looks = looks_not m o.disk (only_now o.disk) })
untouched m y only_now remaining (Some (Init nodes cap)) source o = (refl, refl, refl, nothing_made m nodes cap o.disk o.taken (only_now o.disk))

pub spare_untouched : {D : Type 0} (m : Meaning D) → ((disk : D) (crashed : CrashState) → m.left_since disk (m.moment disk) crashed → IsLeft (m.may_leave disk) crashed)
    → (asked : Option Task) (disk : D) → SpareStays m asked disk disk
spare_untouched m only_now None disk = refl
spare_untouched m only_now (Some Run) disk = keeps_same m disk
spare_untouched m only_now (Some Cluster) disk = keeps_same m disk
spare_untouched m only_now (Some Show) disk = looks_not m disk (only_now disk)
spare_untouched m only_now (Some (Init nodes cap)) disk = (nothing_made m nodes cap disk None (only_now disk)).other

no_usage : ends.NoMemory ≡ ends.Usage → ⊥
no_usage e = cc

-- the whole promise
pub unstarted : {D Y S : Type 0} (m : Meaning D) (y : symb.Meaning Y) → ((disk : D) (crashed : CrashState) → m.left_since disk (m.moment disk) crashed → IsLeft (m.may_leave disk) crashed)
    → (remaining : S → Option (List ℕ)) (asked : Option Task) (source : S) (o : Outside D Y) (c : Counts) → DoesTask m y remaining asked source source o o c c [] ends.NoMemory
unstarted m y only_now remaining asked source o c = record {
  usage = λ e. absurd (no_usage e);
  unasked = λ none. inr refl;
  cause = (refl, refl);
  does = untouched m y only_now remaining asked source o;
  others = λ tells. spare_untouched m only_now asked o.disk;
  complete = λ asks tells sound source_is sink_is disk_is. inr (inl refl);
  listed = λ asks tells site sink_is disk_is. inr refl;
}

-- ---- a site is listed

no_listing : Some Show ≡ None → ⊥
no_listing e = cc

no_run : Some Show ≡ Some Run → ⊥
no_run e = cc

no_cluster : Some Show ≡ Some Cluster → ⊥
no_cluster e = cc

no_serving : AsksToServe (Some Show) → ⊥
no_serving asks = ⊎_elim no_run no_cluster asks

module _ {D Y S : Type 0} (m : Meaning D) (y : symb.Meaning Y) (remaining : S → Option (List ℕ)) (source : S) (old new : D) (taken now : Option (List ℕ)) (sides : List (Side Y))
    (before after : Counts) (end : End) (shows : Shows m old new taken now end) (cause : HasCause m.tells (m.seen old) (remaining source) [] before after end)
    (complete : IsTrue m.tells → AreSite (m.seen old) → IsWithoutFault before.sink after.sink → IsWithoutFault before.disk after.disk → (end ≡ ends.Ok) ⊎ (end ≡ ends.NoMemory)) where
  abbrev Promised : Option Task → Type 0
  Promised asked = DoesTask m y remaining asked source source (outside old taken sides) (outside new now sides) before after [] end

  not_usage : end ≡ ends.Usage → ⊥
  not_usage e = subst (λ (x : End). ShowsTo m old taken now x) e shows.leaves

  listing : Promised (Some Show)
  listing = record {
    usage = λ e. absurd (not_usage e);
    unasked = λ none. absurd (no_listing none);
    cause = cause;
    does = (refl, refl, refl, shows);
    others = λ tells. shows.looks;
    complete = λ asks tells sound source_is sink_is disk_is. absurd (no_serving asks);
    listed = λ asks. complete;
  }

  pub listed : (asked : Option Task) → Some Show ≡ asked → Promised asked
  listed asked is = subst Promised is listing
