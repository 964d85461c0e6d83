-- What the calls of a disk in memory make of one file: what it reads, and what a crash may leave of it.
use Rattle.std.specs.Prelude.{◌⊎◌, ◌≡◌, ◌≢◌, ℕ, ◌-◌, ◌/◌, ◌≤◌, ◌==◌, Bool, true, false, if◌then◌else◌, List, [], ◌∷◌, ◌++◌, length, take, replicate, slice_index_or, map, Option, Some, None, Vec, MatchBool}
use Rattle.std.specs.declared.alloc.Global.{Global}
use Rattle.qm_disk.specs.Disk.{CrashState, spliced, Torn, Cut, IsLeft}
use Rattle.qm_disk.specs.declared.calls.Change.{Change}
use Rattle.qm_disk.specs.declared.calls.Change.TheVariants.{Look, Write, Truncate, Sync}
use Rattle.qm_disk.specs.declared.calls.Call.{Call}

-- the file with bytes 0 behind it up to this place
abbrev pub padded : ℕ → List ℕ → List ℕ
padded at file = file ++ replicate (at - length file) 0

-- what a file reads after a change that held, and as before after one that failed
abbrev pub changed : Change → List ℕ → List ℕ
changed Look content = content
changed (Write at bytes held) content = if held then spliced at bytes.items (padded at content) else content
changed (Truncate size held) content = if held then take size content else content
changed (Sync held) content = content

-- the same of one file of three
abbrev pub content_after : ℕ → List ℕ → Call → List ℕ
content_after f content call = if call.file == f then changed call.change content else content

-- what the file reads after these calls, the oldest first
abbrev pub replayed : ℕ → List Call → List ℕ → List ℕ
replayed f [] content = content
replayed f (call ∷ calls) content = replayed f calls (content_after f content call)

-- What a crash may leave of a file after a change, where it might leave old before. A change that failed may have
-- been made in part.
abbrev pub Outcome : Change → List ℕ → (List ℕ → Type 0) → List ℕ → Type 0
Outcome Look content old c = old c
Outcome (Write at bytes held) content old c = (d : List ℕ) × old d × Torn at (length bytes.items) d c
Outcome (Truncate size held) content old c = (d : List ℕ) × old d × Cut size d c
Outcome (Sync held) content old c = MatchBool held (c ≡ content) (old c)

-- the same after these calls, the oldest first, of which this content was there
abbrev pub Outcomes : ℕ → List Call → List ℕ → (List ℕ → Type 0) → List ℕ → Type 0
Outcomes f [] content old c = old c
Outcomes f (call ∷ calls) content old c =
    Outcomes f calls (content_after f content call) (λ d. MatchBool (call.file == f) (Outcome call.change content old d) (old d)) c

-- the bytes of each of these vectors
abbrev pub contents : List (Vec ℕ Global) → List (List ℕ)
contents vectors = map (λ v. v.items) vectors

-- what file f held at the making
abbrev pub first_of : List (Vec ℕ Global) → ℕ → List ℕ
first_of first f = slice_index_or (contents first) f []

-- what file f reads: what it held at the making, unless it was changed
abbrev pub reading : List ℕ → Option (Vec ℕ Global) → List ℕ
reading first None = first
reading first (Some v) = v.items

abbrev pub reading_of : List (Vec ℕ Global) → List (Option (Vec ℕ Global)) → ℕ → List ℕ
reading_of first changed f = reading (first_of first f) (slice_index_or changed f None)

-- what a crash may leave of file f after these calls
abbrev pub LeftOf : List (Vec ℕ Global) → List Call → ℕ → List ℕ → Type 0
LeftOf first calls f = Outcomes f calls (first_of first f) (λ c. c ≡ first_of first f)

-- the states that a crash after the call number t, or after a later one, may have left
abbrev pub LeftSince : List (Vec ℕ Global) → List Call → ℕ → CrashState → Type 0
LeftSince first calls t kept = (k : ℕ) × (t ≤ k) × (k ≤ length calls) × IsLeft (LeftOf first (take k calls)) kept

-- how many of n bytes a write leaves in a crash of kind 1, all of them, or 2, its first half
abbrev pub part : ℕ → ℕ → ℕ
part pick n = if pick == 1 then n else n / 2

-- what becomes by a change of what a crash keeps, where a crash of kind 0 leaves no change
abbrev pub crash_changed : ℕ → Change → List ℕ → List ℕ → List ℕ
crash_changed pick Look content kept = kept
crash_changed pick (Write at bytes held) content kept =
    if pick == 0 then kept else spliced at (take (part pick (length bytes.items)) bytes.items) (padded at kept)
crash_changed pick (Truncate size held) content kept = if pick == 0 then kept else take size kept
crash_changed pick (Sync held) content kept = if held then content else kept

-- what a crash of this kind keeps of one file: its content at its last sync that held, or at the making, with the later changes
abbrev pub crashed : ℕ → ℕ → List Call → List ℕ → List ℕ → List ℕ
crashed pick f [] content kept = kept
crashed pick f (call ∷ calls) content kept =
    crashed pick f calls (content_after f content call) (if call.file == f then crash_changed pick call.change content kept else kept)

-- the change is such a write
abbrev pub IsWrite : ℕ → List ℕ → Change → Type 0
IsWrite at bytes change = (copy : Vec ℕ Global) × (held : Bool) × (copy.items ≡ bytes) × (change ≡ Write at copy held)

abbrev pub IsTruncate : ℕ → Change → Type 0
IsTruncate size change = (held : Bool) × (change ≡ Truncate size held)

-- One call of such a change joins the record, and the file reads what it makes of it; or none does, and it reads what
-- it did.
abbrev pub Notes : (Change → Type 0) → ℕ → List Call → List Call → List ℕ → List ℕ → Type 0
Notes P file old new before after =
    ((change : Change) × P change × (new ≡ old ++ record { file = file; change = change } ∷ []) × (after ≡ changed change before))
    ⊎ ((new ≡ old) × (after ≡ before))

-- the files other than this one read as before
abbrev pub ReadsOthers : ℕ → List (Vec ℕ Global) → List (Option (Vec ℕ Global)) → List (Option (Vec ℕ Global)) → Type 0
ReadsOthers file first old new = (f : ℕ) → f ≤ 2 → f ≢ file → reading_of first new f ≡ reading_of first old f

-- A sync that held joins the record. One that failed may.
abbrev pub Syncs : ℕ → Bool → List Call → List Call → Type 0
Syncs file held old new = MatchBool held (new ≡ old ++ record { file = file; change = Sync true } ∷ [])
    ((new ≡ old) ⊎ (new ≡ old ++ record { file = file; change = Sync false } ∷ []))
