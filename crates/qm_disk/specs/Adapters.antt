-- What stands behind a source over a reader, a sink over a writer, and a clock over that of the system.
use Rattle.std.specs.Prelude.{ℕ, Bool}
use Rattle.qm_disk.specs.declared.io.adapters.InputSource.{InputSource}
use Rattle.qm_disk.specs.declared.io.adapters.OutputSink.{OutputSink}
use Rattle.qm_disk.specs.declared.io.clock.SystemClock.{SystemClock}

-- the reader that a source reads from
abbrev pub reader_of : {R : Type 0} → InputSource R → R
reader_of source = source.reader

-- whether the reader has told the end of the input
abbrev pub is_ended : {R : Type 0} → InputSource R → Bool
is_ended source = source.is_ended

-- how often a source has failed
abbrev pub input_faults : {R : Type 0} → InputSource R → ℕ
input_faults source = source.faults

-- the writer that a sink writes to
abbrev pub writer_of : {W : Type 0} → OutputSink W → W
writer_of sink = sink.writer

-- whether a write has failed: nothing more goes out
abbrev pub is_lost : {W : Type 0} → OutputSink W → Bool
is_lost sink = sink.is_lost

-- how often a sink has failed
abbrev pub output_faults : {W : Type 0} → OutputSink W → ℕ
output_faults sink = sink.faults

-- the system whose time a clock tells
abbrev pub system_of : {S : Type 0} → SystemClock S → S
system_of clock = clock.system

-- the moment that a clock told last
abbrev pub last_told : {S : Type 0} → SystemClock S → ℕ
last_told clock = clock.last
