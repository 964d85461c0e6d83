-- The records of a log: requests, and the rows of an image.
-- OpenVMS System Manager's Manual, Managing the Queue Manager and Queue Database, on the journal file and the master file.
-- This site's own: that the journal is a list of accepted requests behind an image.
use Rattle.std.specs.Prelude.{ℕ, List, ◌∷◌, ◌++◌, map}
use Rattle.qm_kinds.specs.declared.record.Record.{Record}
use Rattle.qm_kinds.specs.declared.record.Body.{Body}
use Rattle.qm_kinds.specs.declared.record.Body.TheVariants as body
use Rattle.qm_kinds.specs.declared.request.Request.{Request}
use Rattle.qm_kinds.specs.declared.system.System.{System}

-- the record of a request that a node made at a moment
abbrev pub request_record : ℕ → ℕ → Request → Record
request_record moment node request = record { moment = moment; node = node; body = body.Ask request }

-- a row of an image has the first moment and the first node
abbrev pub row : Body → Record
row what = record { moment = 0; node = 0; body = what }

-- what a system has once
abbrev pub head_of : System → Body
head_of s = body.Head s.nodes s.may s.next_entry s.next_run s.last

-- the rows of the image of a system: its head, and then all that it lists, in the order of listings
abbrev pub image_of : System → List Record
image_of s =
    row (head_of s) ∷ (map (λ f. row (body.Form f)) s.forms ++ (map (λ c. row (body.Characteristic c)) s.characteristics
    ++ (map (λ f. row (body.File f)) s.files ++ (map (λ q. row (body.Queue q)) s.queues ++ map (λ e. row (body.Entry e)) s.entries))))
