-- What a sink in memory holds, and which of its calls fail.
use Rattle.std.specs.Prelude.{ℕ, ◌+◌, ◌<◌, ◌⊎◌, List, length, Contains}
use Rattle.io_ports.specs.declared.memory_sink.MemorySink.{MemorySink}
use Rattle.io_ports.specs.Counts.{next_count}

-- what was written
abbrev pub bytes_in : MemorySink → List ℕ
bytes_in sink = sink.bytes.items

-- how many bytes it takes at most
abbrev pub room_of : MemorySink → ℕ
room_of sink = sink.room

-- how many calls there were, up to the largest `u64`
abbrev pub calls_of : MemorySink → ℕ
calls_of sink = sink.calls.made

-- the numbers of the calls that fail
abbrev pub failing_of : MemorySink → List ℕ
failing_of sink = sink.calls.failing.items

-- how many calls failed, up to the largest `u64`
abbrev pub faults_of : MemorySink → ℕ
faults_of sink = sink.faults

-- the next call's number is listed, or this piece does not fit behind what was written
abbrev pub MeetsFault : MemorySink → List ℕ → Type 0
MeetsFault sink piece =
    Contains (failing_of sink) (next_count (calls_of sink))
    ⊎ (room_of sink < length (bytes_in sink) + length piece)
