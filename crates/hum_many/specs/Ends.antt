-- How a run of many cases ends.
use Rattle.std.specs.Prelude.{ℕ, Bool, true, false}
use Rattle.hum_net.specs.Outcomes as net
use Rattle.hum_packets.specs.declared.stop.Stop.{Stop}
use Rattle.hum_packets.specs.declared.stop.Stop.TheVariants as stop
use Rattle.hum_many.specs.declared.end.ManyEnd.{ManyEnd}
use Rattle.hum_many.specs.declared.end.ManyEnd.TheVariants.{Finished, Plan, Broken, Read, Write, Memory}

-- what a stop ends with
abbrev pub end_of : Stop → ManyEnd
end_of (stop.Broken at) = Broken at
end_of stop.Read = Read
end_of stop.Write = Write
end_of stop.Memory = Memory

-- the exit status
abbrev pub status_of : ManyEnd → ℕ
status_of Finished = 0
status_of (Plan is) = net.status_of is
status_of (Broken at) = 2
status_of Read = 3
status_of Write = 3
status_of Memory = 3

-- whether it was a write that failed
abbrev pub is_write_end : ManyEnd → Bool
is_write_end Finished = false
is_write_end (Plan is) = false
is_write_end (Broken at) = false
is_write_end Read = false
is_write_end Write = true
is_write_end Memory = false

-- whether it was a read that failed
abbrev pub is_read_end : ManyEnd → Bool
is_read_end Finished = false
is_read_end (Plan is) = false
is_read_end (Broken at) = false
is_read_end Read = true
is_read_end Write = false
is_read_end Memory = false
