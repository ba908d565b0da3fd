-- How often the sink over standard output has failed.
use Rattle.std.specs.Prelude.{ℕ}
use Rattle.base_core.specs.declared.std_sink.StdSink.{StdSink}

abbrev pub output_faults : {P : Type 0} → StdSink P → ℕ
output_faults sink = sink.faults
