-- What a sink over a writer holds.
use Rattle.std.specs.Prelude.{ℕ}
use Rattle.std.specs.declared.io.traits.Write.{Ghosts}
use Rattle.io_ports.specs.declared.std_sink.StdSink.{StdSink}

-- the writer
abbrev pub writer_of : {W : Type 0} {ghosts : Ghosts W} → StdSink W ghosts → W
writer_of sink = sink.out

-- how many calls failed, up to the largest `u64`
abbrev pub faults_of : {W : Type 0} {ghosts : Ghosts W} → StdSink W ghosts → ℕ
faults_of sink = sink.faults
