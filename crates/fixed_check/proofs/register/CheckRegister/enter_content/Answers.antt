-- `CheckRegister::enter_content` meets its contract: words, then the last bytes. Assumes nothing.
use Rattle.std.proofs.Common.{◌∙◌, ◌/◌, length, ap}
use Rattle.bits.specs.Bytes.{bits_of}
use Rattle.registers.specs.Register.{enter}
use Rattle.fixed_check.proofs.Contents.{words_then_bytes}
use Rattle.fixed_check.proofs.register.CheckRegister.enter_content.Goals as goal

pub returns : goal.returns
returns g c =
    let m = g.Self.CheckRegister in
    let a = c.args in
    let tail = c.as_chunks.result.1.now in
    c.enter_bytes.ensures ∙ ap (λ r. enter m.generator r (bits_of tail)) c.enter_words.ensures
    ∙ words_then_bytes m.generator (m.bits a.self) a.content.now (length a.content.now / 8) c.as_chunks.ensures.front c.as_chunks.ensures.back
