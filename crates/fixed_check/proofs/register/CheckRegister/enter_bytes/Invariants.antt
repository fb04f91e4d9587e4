-- `CheckRegister::enter_bytes` meets its contract. The loop's invariant: the bytes so far are entered. Assumes nothing.
use Rattle.std.proofs.Common.{◌≡◌, ◌≤◌, length, take}
use Rattle.bits.specs.Bytes.{bits_of}
use Rattle.registers.specs.Register.{enter}
use Rattle.fixed_check.proofs.register.CheckRegister.enter_bytes.Given as goal

abbrev pub invariant-loop-byte : goal.invariant-loop-byte
invariant-loop-byte g l =
    let m = g.Self.CheckRegister in
    (l.byte-index ≤ length l.bytes) × (m.bits l.register ≡ enter m.generator (m.bits l.fn.self) (bits_of (take l.byte-index l.bytes)))
