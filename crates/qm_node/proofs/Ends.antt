-- What ends tell of the files and of the sink, one behind another.
use Rattle.std.proofs.Common.{◌≡◌, ◌⊎◌, inl, inr, ℕ, refl, sym, subst, Option, None, Some, Result, Err}
use Rattle.qm_history.specs.declared.call.Answer.{Answer}
use Rattle.qm_history.specs.declared.call.Answer.TheVariants as answer
use Rattle.qm_node.specs.Answered.{stop_of}
use Rattle.qm_node.specs.Ends.{IsUndamaged, TellsWrite}
use Rattle.qm_node.specs.declared.turn.TurnEnd.{TurnEnd}
use Rattle.qm_node.specs.declared.turn.TurnEnd.TheVariants as end

-- behind calls of which none failed
pub write_on : {T : Type 0} (result : Result T TurnEnd) (old mid new : ℕ) → mid ≡ old → TellsWrite mid new result → TellsWrite old new result
write_on result old mid new same tells = subst (λ (n : ℕ). TellsWrite n new result) same tells

pub stop_on : (stopped : TurnEnd) (old mid new : ℕ) → mid ≡ old → TellsWrite {T = Unit {0}} mid new (Err stopped) → TellsWrite {T = Unit {0}} old new (Err stopped)
stop_on stopped = write_on {T = Unit {0}} (Err stopped)

-- an answer behind which an end comes isn't printed
abbrev IsQuiet : ℕ → Option TurnEnd → Type 0
IsQuiet count None = Unit {0}
IsQuiet count (Some stopped) = TellsWrite {T = Unit {0}} count count (Err stopped)

quiet_at : (count : ℕ) (told : Answer) → IsQuiet count (stop_of told)
quiet_at count answer.HistoryFull = refl
quiet_at count (answer.Damaged file place) = refl
quiet_at count (answer.NoMemory took) = refl
quiet_at count (answer.Done took moment reply) = tt
quiet_at count (answer.Shown took moment rows) = tt
quiet_at count (answer.Duties took moment duties) = tt
quiet_at count (answer.Refused took refusal) = tt
quiet_at count (answer.Full took need cap) = tt
quiet_at count (answer.Journal took live) = tt
quiet_at count (answer.Fenced held current) = tt
quiet_at count (answer.NoManager took name) = tt

pub none_written : (count : ℕ) (told : Answer) (stopped : TurnEnd) → stop_of told ≡ Some stopped → TellsWrite {T = Unit {0}} count count (Err stopped)
none_written count told stopped is = subst (IsQuiet count) is (quiet_at count told)

-- an answer that doesn't tell of damage
abbrev IsSoundEnd : Option TurnEnd → Type 0
IsSoundEnd None = Unit {0}
IsSoundEnd (Some stopped) = IsUndamaged stopped

sound_at : (told : Answer) → ((file place : ℕ) → told ≡ answer.Damaged file place → ⊥) → IsSoundEnd (stop_of told)
sound_at answer.HistoryFull isnt = tt
sound_at (answer.Damaged file place) isnt = isnt file place refl
sound_at (answer.NoMemory took) isnt = tt
sound_at (answer.Done took moment reply) isnt = tt
sound_at (answer.Shown took moment rows) isnt = tt
sound_at (answer.Duties took moment duties) isnt = tt
sound_at (answer.Refused took refusal) isnt = tt
sound_at (answer.Full took need cap) isnt = tt
sound_at (answer.Journal took live) isnt = tt
sound_at (answer.Fenced held current) isnt = tt
sound_at (answer.NoManager took name) isnt = tt

pub sound_end : (told : Answer) (stopped : TurnEnd) → stop_of told ≡ Some stopped → ((file place : ℕ) → told ≡ answer.Damaged file place → ⊥) → IsUndamaged stopped
sound_end told stopped is isnt = subst IsSoundEnd is (sound_at told isnt)

-- the ends of printing
pub printing_undamaged : (stopped : TurnEnd) → (stopped ≡ end.Write) ⊎ (stopped ≡ end.NoMemory) → IsUndamaged stopped
printing_undamaged stopped (inl is) = subst IsUndamaged (sym is) tt
printing_undamaged stopped (inr is) = subst IsUndamaged (sym is) tt
