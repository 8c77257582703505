-- What a clause reads of an adapter: the reader or writer of std inside, and the count of its faults.
use Rattle.std.specs.Prelude.{ℕ}
use Rattle.krieg_ports.specs.declared.adapters.Adapter.{Adapter}
use Rattle.krieg_ports.specs.declared.adapters.AdapterOut.{AdapterOut}

-- the reader
abbrev pub inner_reader : {R : Type 0} → Adapter R → R
inner_reader a = a.inner

-- how many of its reads failed
abbrev pub read_faults : {R : Type 0} → Adapter R → ℕ
read_faults a = a.faults

-- the writer
abbrev pub inner_writer : {W : Type 0} → AdapterOut W → W
inner_writer a = a.inner

-- how many of its writes failed
abbrev pub write_faults : {W : Type 0} → AdapterOut W → ℕ
write_faults a = a.faults
