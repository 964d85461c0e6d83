-- How a node's turns end, how the program ends, and what the sink has then.
-- DCL Dictionary, SHOW QUEUE, on its display. This site's own: the ends of a program, and what each says of the transcript.
use Rattle.std.specs.Prelude.{◌≡◌, ℕ, Bool, true, false, if◌then◌else◌, List, [], ◌∷◌, ◌++◌, flat_map, codes, None}
use Rattle.qm_model.specs.Common.{Query, System, view}
use Rattle.qm_kinds.specs.declared.query.Listing.TheVariants as listing
use Rattle.qm_model.specs.Transcript.{row_lines}
use Rattle.qm_history.specs.Answers.{rows_shown}
use Rattle.qm_history.specs.Course.{Extent, Whole, Begun}

-- how the turns of a node end: with its leave or while it is stopped; broken off, where one thread serves all nodes and stopped
-- before, by another node's end or by the sink; or at an answer behind which none can come
pub data NodeEnd : Type 0 where
  Ended : NodeEnd
  BrokenOff : NodeEnd
  TurnsSpent : NodeEnd
  FileDamaged : ℕ → ℕ → NodeEnd
  MemoryShort : NodeEnd

-- its course is whole, or begun
abbrev pub extent_of : NodeEnd → Extent
extent_of Ended = Whole
extent_of BrokenOff = Begun
extent_of TurnsSpent = Begun
extent_of (FileDamaged file place) = Begun
extent_of MemoryShort = Begun

-- one text begins with the other
abbrev pub BeginsWith : List ℕ → List ℕ → Type 0
BeginsWith text beginning = (more : List ℕ) × (text ≡ beginning ++ more)

-- A node has printed the text of its turns; where it ended for want of memory or at a damaged file, a beginning of that.
abbrev pub HasPrinted : NodeEnd → List ℕ → List ℕ → Type 0
HasPrinted Ended text printed = printed ≡ text
HasPrinted BrokenOff text printed = printed ≡ text
HasPrinted TurnsSpent text printed = printed ≡ text
HasPrinted (FileDamaged file place) text printed = BeginsWith text printed
HasPrinted MemoryShort text printed = BeginsWith text printed

-- how serving ends: the script was served, with disks that failed or not; or the sink failed, more turns can't be kept, a file
-- is damaged, or memory is short
pub data ServingEnd : Type 0 where
  Served : ServingEnd
  DiskFailed : ServingEnd
  SinkFailed : ServingEnd
  HistoryFull : ServingEnd
  Damaged : ℕ → ℕ → ServingEnd
  NoMemory : ServingEnd

-- the status with which the program ends
abbrev pub status_of : ServingEnd → ℕ
status_of Served = 0
status_of SinkFailed = 5
status_of DiskFailed = 6
status_of (Damaged file place) = 8
status_of HistoryFull = 9
status_of NoMemory = 10

-- what a node left: how it ended, and what it printed
pub record NodeText : Type 0 where
  pub end : NodeEnd
  pub printed : List ℕ

-- its text may not be whole, and nothing is printed behind it
abbrev pub cuts_text : NodeEnd → Bool
cuts_text Ended = false
cuts_text BrokenOff = false
cuts_text TurnsSpent = false
cuts_text (FileDamaged file place) = true
cuts_text MemoryShort = true

-- the texts of nodes up to the first one that may not be whole, and behind all of them a last line
abbrev pub texts_printed : List ℕ → List NodeText → List ℕ
texts_printed last [] = last
texts_printed last (n ∷ nodes) = if cuts_text n.end then n.printed else n.printed ++ texts_printed last nodes

-- where several ends came: want of memory counts first, then damage, then a failing sink, then that no more turns are kept, and
-- then failing disks
abbrev pub worse : ServingEnd → ServingEnd → ServingEnd
worse NoMemory other = NoMemory
worse (Damaged file place) NoMemory = NoMemory
worse (Damaged file place) other = Damaged file place
worse SinkFailed NoMemory = NoMemory
worse SinkFailed (Damaged file place) = Damaged file place
worse SinkFailed other = SinkFailed
worse HistoryFull Served = HistoryFull
worse HistoryFull DiskFailed = HistoryFull
worse HistoryFull other = other
worse DiskFailed Served = DiskFailed
worse DiskFailed other = other
worse Served other = other

-- what the end of a node makes of the program's
abbrev pub end_of_node : NodeEnd → ServingEnd
end_of_node Ended = Served
end_of_node BrokenOff = Served
end_of_node TurnsSpent = HistoryFull
end_of_node (FileDamaged file place) = Damaged file place
end_of_node MemoryShort = NoMemory

-- the end of the program: the worst of its nodes', and of what else there is, which is that memory was short outside of its
-- nodes, that the sink failed, that a disk did, or none of these
abbrev pub end_of : List NodeEnd → ServingEnd → ServingEnd
end_of [] rest = rest
end_of (e ∷ ends) rest = worse (end_of_node e) (end_of ends rest)

-- the lines of a text, without anything in front of them
abbrev pub lines_text : List (List ℕ) → List ℕ
lines_text lines = flat_map (λ (line : List ℕ). line ++ 10 ∷ []) lines

-- every queue, with the jobs of all users
abbrev pub all_jobs : Query
all_jobs = record {
  listing = listing.Queues;
  pattern = codes "*";
  number = None;
  user = None;
  kinds = record { batch = true; print = true; generic_batch = true; generic_print = true };
  queue = None;
  after = None;
  single = false;
}

-- what `show` prints of the system of a site: the listing of SHOW QUEUE/ALL_JOBS, without prefixes
abbrev pub show_text : System → List ℕ
show_text s = lines_text (row_lines (rows_shown (view s None all_jobs)))
