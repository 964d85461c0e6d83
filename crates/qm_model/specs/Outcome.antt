-- What comes of a request: a refusal, or a system and a reply.
-- OpenVMS System Services Reference Manual, $SNDJBC, on condition values and on what a request returns.
-- This site's own: a refused request changes nothing, and of several refusals that hold the first is told.
use Rattle.std.specs.Prelude.{Bool, if◌then◌else◌, List, [], ◌∷◌, Option, None, Some, Result, Ok, Err}
use Rattle.qm_kinds.specs.declared.refusal.Refusal.{Refusal}
use Rattle.qm_kinds.specs.declared.reply.Reply.{Reply}
use Rattle.qm_kinds.specs.declared.system.System.{System}

-- the system after an accepted request, and what is replied
pub record Accepted : Type 0 where
  pub system : System
  pub reply : Reply

-- the refusal, where the test holds
abbrev pub refused_where : Bool → Refusal → Option Refusal
refused_where test refusal = if test then Some refusal else None

-- the first refusal of the list, in which each place is a refusal or none
abbrev pub first_refusal : List (Option Refusal) → Option Refusal
first_refusal [] = None
first_refusal (None ∷ others) = first_refusal others
first_refusal (Some refusal ∷ others) = Some refusal

-- refused, or accepted with this outcome
abbrev pub unless_refused : Option Refusal → Accepted → Result Accepted Refusal
unless_refused None accepted = Ok accepted
unless_refused (Some refusal) accepted = Err refusal
