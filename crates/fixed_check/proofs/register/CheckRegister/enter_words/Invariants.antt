-- `CheckRegister::enter_words` meets its contract. The loop's invariant: the words so far are entered. Assumes nothing.
use Rattle.std.proofs.Common.{◌≡◌, ◌≤◌, length, take}
use Rattle.std.specs.List.{concat}
use Rattle.bits.specs.Bytes.{bits_of}
use Rattle.registers.specs.Register.{enter}
use Rattle.fixed_check.proofs.register.CheckRegister.enter_words.Given as goal

abbrev pub invariant-loop-bytes : goal.invariant-loop-bytes
invariant-loop-bytes g l =
    let m = g.Self.CheckRegister in
    (l.bytes-index ≤ length l.words) × (m.bits l.register ≡ enter m.generator (m.bits l.fn.self) (bits_of (concat (take l.bytes-index l.words))))
