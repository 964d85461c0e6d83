-- What a request is answered, and what it leaves.
use Rattle.std.specs.Prelude.{◌≡◌, ◌<◌, ◌≤◌, ◌^◌, ℕ, IsTrue, IsOk, List, length, Result, Ok, Err}
use Rattle.qm_history.specs.Common.{Meaning, KeepsOthers, LeavesOnly, need_of, CanFollow, HasListsOfNodes, Reply, Request, System, applied, IsLawful, request_record}
use Rattle.qm_store.specs.Recorded.{Recorded, HoldsEither, with_body}
use Rattle.qm_record.specs.Spelling.{AreListsShort, record_text}
use Rattle.qm_acting.specs.Standing.{Standing}
use Rattle.qm_acting.specs.declared.fault.AskFault.{AskFault}
use Rattle.qm_acting.specs.declared.fault.AskFault.TheVariants as fault
use Rattle.qm_acting.specs.declared.replies.Replies.{Replies}

-- What is asked of a request: its node is there, no moment goes back, its names and its lists of nodes keep their rules, and
-- where it is accepted its lists are short enough for a record.
pub record CanBeAsked (s : System) (moment node : ℕ) (asked : Request) : Type 0 where
  pub node_there : node < length s.nodes
  pub not_earlier : s.last ≤ moment
  pub names : IsLawful s node asked
  pub lists : HasListsOfNodes s asked
  pub short : IsOk (applied s moment node asked) → AreListsShort asked

-- the bytes of its record
abbrev pub text_of : ℕ → ℕ → Request → List ℕ
text_of moment node asked = record_text (request_record moment node asked)

-- how many bytes the live file takes with a record more
abbrev pub need_with : Recorded → List ℕ → ℕ
need_with r text = need_of r.bodies text

-- The record of an accepted request is the last one, within the cap, and the system is the one that the request leaves.
pub record Does (old : Standing) (moment node : ℕ) (asked : Request) (new : Standing) (reply : Reply) : Type 0 where
  pub follows : CanFollow old.system moment node asked
  pub accepted : applied old.system moment node asked ≡ Ok (record { system = new.system; reply = reply })
  pub room : need_with old.recorded (text_of moment node asked) ≤ old.recorded.says.cap
  pub recorded : new.recorded ≡ with_body old.recorded (text_of moment node asked)

-- An accepted request has no room for its record, whose bytes are in memory: the file would take so many bytes, which is more
-- than its cap.
pub record Lacks (old : Standing) (moment node : ℕ) (asked : Request) (need cap : ℕ) : Type 0 where
  pub follows : CanFollow old.system moment node asked
  pub short : length (text_of moment node asked) < 2 ^ 63
  pub over : cap < need
  pub need_is : need ≡ need_with old.recorded (text_of moment node asked)
  pub cap_is : cap ≡ old.recorded.says.cap

-- the record of an accepted request, for which there is room, may be there or not
pub record IsInDoubt (old : Standing) (moment node : ℕ) (asked : Request) : Type 0 where
  pub follows : CanFollow old.system moment node asked
  pub room : need_with old.recorded (text_of moment node asked) ≤ old.recorded.says.cap

-- What a request is answered, and what then stands. Memory is wanted for what the rules accept alone.
abbrev pub Answers : ℕ → ℕ → Request → Standing → Standing → Result Replies AskFault → Type 0
Answers moment node asked old new (Ok replies) = Does old moment node asked new replies.kept × (replies.told ≡ replies.kept)
Answers moment node asked old new (Err (fault.Refused refusal)) = (applied old.system moment node asked ≡ Err refusal) × (new ≡ old)
Answers moment node asked old new (Err (fault.Full need cap)) = Lacks old moment node asked need cap × (new ≡ old)
Answers moment node asked old new (Err fault.Disk) = IsInDoubt old moment node asked × (new ≡ old)
Answers moment node asked old new (Err fault.NoMemory) = IsOk (applied old.system moment node asked) × (new ≡ old)

-- while a record is written, a crash at any moment leaves the records before it, or these and the new one; the other files stay
pub record Writes {D : Type 0} (m : Meaning D) (r : Recorded) (text : List ℕ) (old new : D) : Type 0 where
  pub any_moment : IsTrue m.tells → LeavesOnly m old new (HoldsEither (m.may_leave old) r.says.live r (with_body r text))
  pub others : KeepsOthers m r.says.live old new

-- A request that is done has its record written, and one that is in doubt may have. Any other leaves the device as it was.
abbrev pub MayWrite : {D : Type 0} → Meaning D → Recorded → List ℕ → D → D → Result Replies AskFault → Type 0
MayWrite m r text old new (Ok replies) = Writes m r text old new
MayWrite m r text old new (Err (fault.Refused refusal)) = new ≡ old
MayWrite m r text old new (Err (fault.Full need cap)) = new ≡ old
MayWrite m r text old new (Err fault.Disk) = Writes m r text old new
MayWrite m r text old new (Err fault.NoMemory) = new ≡ old
