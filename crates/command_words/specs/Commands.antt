-- What a command stands for.
use Rattle.command_words.specs.declared.command.Command.{Command}
use Rattle.command_words.specs.declared.command.Command.TheVariants as command
use Rattle.command_words.specs.Readings.{Request, Check, Value, Reserves, Occupancy, Moments, Premium, Generate}
use Rattle.command_words.specs.Readings.{Load, Upgrade, Join, Compare, Audit, Portfolio, Help, Version, Shift}
use Rattle.command_words.specs.Readings.{Multiply, Charge, Merge}

-- the request of a command
abbrev pub request_of : Command → Request
request_of (command.Check file) = Check file.now
request_of (command.Value file) = Value file.now
request_of (command.Reserves file every) = Reserves file.now every
request_of (command.Occupancy file every) = Occupancy file.now every
request_of (command.Moments file every) = Moments file.now every
request_of (command.Premium file) = Premium file.now
request_of (command.Generate seed) = Generate seed
request_of (command.Load seed) = Load seed
request_of (command.Upgrade file) = Upgrade file.now
request_of (command.Join first second) = Join first.now second.now
request_of (command.Compare first second every) = Compare first.now second.now every
request_of (command.Audit file claims eps) = Audit file.now claims.now eps
request_of (command.Portfolio file) = Portfolio file.now
request_of command.Help = Help
request_of command.Version = Version
request_of (command.Shift file rate) = Shift file.now rate
request_of (command.Multiply file from to factor) = Multiply file.now from.now to.now factor
request_of (command.Charge file amount) = Charge file.now amount
request_of (command.Merge file) = Merge file.now
