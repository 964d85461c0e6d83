-- What a sink took of a text.
use Rattle.std.proofs.Common.{◌≡◌, ℕ, List, [], take, drop, refl, sym, ◌∙◌, Option, None, Some, take-append-drop, append-nil}
use Rattle.std.specs.Io.KnownBytes.{Appends}
use Rattle.qm_disk.specs.Bytes.{TakesPrefix}
use Rattle.qm_node.specs.Ends.{TakesFront}

pub front_of_prefix : (old new : Option (List ℕ)) (bytes text : List ℕ) → bytes ≡ text → TakesPrefix old new bytes → TakesFront old new text
front_of_prefix old new bytes text is h = (take h.0 bytes, drop h.0 bytes, sym is ∙ sym (take-append-drop h.0 bytes), h.2)

pub front_of_all : (old new : Option (List ℕ)) (text : List ℕ) → Appends old new text → TakesFront old new text
front_of_all old new text h = (text, [], sym (append-nil text), h)

pub none_of : {X : Type 0} (o : Option X) → ((x : X) → o ≡ Some x → ⊥) → o ≡ None
none_of None isnt = refl
none_of (Some x) isnt = absurd (isnt x refl)
