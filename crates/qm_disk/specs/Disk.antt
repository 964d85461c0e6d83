-- What the calls of a disk do to its three files, and what a crash may make of them.
use Rattle.std.specs.Prelude.{◌≡◌, ◌≢◌, ◌⊎◌, ℕ, ◌+◌, ◌≤◌, min, max, Bool, List, ◌++◌, length, take, drop}
use Rattle.qm_disk.specs.Faults.{counted, Tells}

-- a content for each of the files 0, 1 and 2
abbrev pub CrashState : Type 0
CrashState = ℕ → List ℕ

-- What disks of one type mean: all that the contract of their calls speaks of.
pub record Meaning (D : Type 0) : Type 1 where
  -- whether they tell their contents; where they don't, `seen` says nothing
  pub tells : Bool
  -- what each file reads
  pub seen : D → ℕ → List ℕ
  -- what a crash at this moment may leave of each file; a crash state has one of these of each
  pub may_leave : D → ℕ → List ℕ → Type 0
  -- the moment, one number for all three files, which doesn't fall and which calls raise
  pub moment : D → ℕ
  -- the states that a crash at some moment since that one may have left, during a call or between two
  pub left_since : D → ℕ → CrashState → Type 0
  -- how many calls failed
  pub faults : D → ℕ

-- the file with these bytes at this place
abbrev pub spliced : ℕ → List ℕ → List ℕ → List ℕ
spliced at bytes file = take at file ++ bytes ++ drop (at + length bytes) file

-- a write of n bytes that a crash cuts short: any bytes in its range and past the old end, the others as they were
pub record Torn (at n : ℕ) (old new : List ℕ) : Type 0 where
  pub before : take (min at (length old)) new ≡ take (min at (length old)) old
  pub after : drop (at + n) new ≡ drop (at + n) old
  pub no_shorter : length old ≤ length new
  pub no_longer : length new ≤ max (length old) (at + n)

-- a cut that a crash may undo: what was cut off is there, with any bytes, or isn't; the others as they were
pub record Cut (size : ℕ) (old new : List ℕ) : Type 0 where
  pub before : take size new ≡ take size old
  pub no_longer : length new ≤ length old

-- each outcome of a crash now is an outcome from before the call, after this step
abbrev pub Follows : (List ℕ → List ℕ → Type 0) → (List ℕ → Type 0) → (List ℕ → Type 0) → Type 0
Follows step old new = (c : List ℕ) → new c → (d : List ℕ) × old d × step d c

-- a crash leaves this content and no other
abbrev pub Only : List ℕ → (List ℕ → Type 0) → Type 0
Only content outcomes = (c : List ℕ) → outcomes c → c ≡ content

-- the crash state has of each file one of the contents that a crash may leave of that file
abbrev pub IsLeft : (ℕ → List ℕ → Type 0) → CrashState → Type 0
IsLeft may_leave crashed = (f : ℕ) → f ≤ 2 → may_leave f (crashed f)

-- the crash state has of the files other than this one what a crash may leave of them
abbrev pub OthersLeft : (ℕ → List ℕ → Type 0) → ℕ → CrashState → Type 0
OthersLeft may_leave file crashed = (f : ℕ) → f ≤ 2 → f ≢ file → may_leave f (crashed f)

module _ {D : Type 0} (m : Meaning D) where
  -- the files other than this one read as before, and a crash may leave of them what it might before
  pub record KeepsOthers (file : ℕ) (old new : D) : Type 0 where
    pub reads : (f : ℕ) → f ≤ 2 → f ≢ file → m.seen new f ≡ m.seen old f
    pub no_more : (f : ℕ) (c : List ℕ) → f ≤ 2 → f ≢ file → m.may_leave new f c → m.may_leave old f c
    pub no_fewer : (f : ℕ) (c : List ℕ) → f ≤ 2 → f ≢ file → m.may_leave old f c → m.may_leave new f c

  -- all three do
  pub record KeepsAll (old new : D) : Type 0 where
    pub reads : (f : ℕ) → f ≤ 2 → m.seen new f ≡ m.seen old f
    pub no_more : (f : ℕ) (c : List ℕ) → f ≤ 2 → m.may_leave new f c → m.may_leave old f c
    pub no_fewer : (f : ℕ) (c : List ℕ) → f ≤ 2 → m.may_leave old f c → m.may_leave new f c

  -- Time goes on: a crash since t might have left what it might before the call, or what it may leave now.
  pub record Elapses (old new : D) : Type 0 where
    pub later : m.moment old ≤ m.moment new
    pub nothing_else : (t : ℕ) (crashed : CrashState) → t ≤ m.moment old → m.left_since new t crashed → m.left_since old t crashed ⊎ IsLeft (m.may_leave new) crashed
    pub keeps : (t : ℕ) (crashed : CrashState) → t ≤ m.moment old → m.left_since old t crashed → m.left_since new t crashed

  -- A crash at any moment since old leaves a crash state that has P.
  pub record LeavesOnly (old new : D) (P : CrashState → Type 0) : Type 0 where
    pub later : m.moment old ≤ m.moment new
    pub each : (crashed : CrashState) → m.left_since new (m.moment old) crashed → P crashed
    -- for a run that began earlier
    pub before : (t : ℕ) (crashed : CrashState) → t ≤ m.moment old → m.left_since new t crashed → m.left_since old t crashed ⊎ P crashed

  -- Calls that change nothing: the files read as before, and a crash at any moment leaves what it might before.
  pub record OnlyLooks (old new : D) : Type 0 where
    pub reads : (f : ℕ) → f ≤ 2 → m.seen new f ≡ m.seen old f
    pub no_more : (f : ℕ) (c : List ℕ) → f ≤ 2 → m.may_leave new f c → m.may_leave old f c
    pub any_moment : LeavesOnly old new (IsLeft (m.may_leave old))

  -- Calls that change one file: the others stay as they are, whatever a crash at any moment makes of this one.
  pub record ChangesOnly (file : ℕ) (old new : D) : Type 0 where
    pub others : KeepsOthers file old new
    pub any_moment : LeavesOnly old new (OthersLeft (m.may_leave old) file)

  -- one call failed: the count of faults is one more, or stands at the end of its type
  abbrev pub OneFailed : D → D → Type 0
  OneFailed old new = m.faults new ≡ counted (m.faults old)

  -- no call failed
  abbrev pub IsQuiet : D → D → Type 0
  IsQuiet old new = m.faults new ≡ m.faults old

  -- where a fault is told one call failed, and where none is told none did
  abbrev pub TellsFaults : D → D → Type 0 → Type 0
  TellsFaults old new told = Tells (m.faults old) (m.faults new) told
