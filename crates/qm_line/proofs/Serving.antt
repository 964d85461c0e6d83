-- What lines ask for.
use Rattle.std.proofs.Common.{◌≡◌, ◌==◌, ℕ, false, List, Result, Ok, Err, OnErr, refl, sym}
use Rattle.std.specs.List.{list_any}
use Rattle.qm_sjc.specs.Meant.{items_mean}
use Rattle.qm_history.specs.Acts.{act_asked}
use Rattle.qm_history.specs.Common.{text_asked, Scans}
use Rattle.qm_script.specs.declared.lines.LineSort.{LineSort}
use Rattle.qm_script.specs.declared.lines.LineSort.TheVariants as sort
use Rattle.qm_script.specs.ClusterLines.{line_sort_view, whole}
use Rattle.qm_script.specs.Extents.{joined}
use Rattle.qm_script.specs.Wanting.{MayTakeMemory, TakesMemory}
use Rattle.qm_script.proofs.Joining.{joined_plain}
use Rattle.qm_line.specs.Asked.{command_means}

-- a text that doesn't go on is joined as it stands
pub text_as_it_stands : (text : List ℕ) → false ≡ list_any (λ (b : ℕ). b == 10) text → joined text ≡ text
text_as_it_stands text plain = joined_plain text (sym plain)

-- an act asks for what its text does
pub act_line : (of : LineSort) (user : List ℕ) (reading : ℕ) (text : List ℕ) (s : Scans) (known : List ℕ) → of ≡ sort.Act
    → text_asked items_mean command_means (line_sort_view of) user reading (whole (line_sort_view of) text) s known ≡ act_asked known text
act_line sort.Command user reading text s known is = absurd (cc)
act_line sort.Items user reading text s known is = absurd (cc)
act_line sort.Act user reading text s known is = refl

pub act_takes : (of : LineSort) (user : List ℕ) (reading : ℕ) (text : List ℕ) (s : Scans) (known : List ℕ) → of ≡ sort.Act → TakesMemory (act_asked known text)
    → MayTakeMemory (line_sort_view of) (text_asked items_mean command_means (line_sort_view of) user reading (whole (line_sort_view of) text) s known)
act_takes sort.Command user reading text s known is takes = tt
act_takes sort.Items user reading text s known is takes = tt
act_takes sort.Act user reading text s known is takes = takes

pub on_err : {X Y : Type 0} (r : Result X Y) (P Q : Type 0) → OnErr r P → (P → Q) → OnErr r Q
on_err (Ok x) P Q h f = h
on_err (Err e) P Q h f = f h
