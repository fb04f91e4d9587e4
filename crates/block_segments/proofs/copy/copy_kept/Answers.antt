-- `copy_kept` meets its contract: the next byte, kept or not, and none. Assumes nothing.
use Rattle.std.proofs.Common.{false, refl, sym, ◌∙◌, arith}
use lib.ListN.{length-map}
use Rattle.block.specs.Signs.{table_of}
use Rattle.block.specs.Characters.{character}
use Rattle.block_framing.specs.Framings.{kept_bytes}
use Rattle.block_segments.proofs.Copying.{copied, all_kept, stored}
use Rattle.block_segments.proofs.copy.copy_kept.Goals.{then-keeps, else-keeps}
use Rattle.block_segments.proofs.copy.copy_kept.Goals as goal

pub loop-b-preserved : goal.loop-b-preserved
loop-b-preserved c =
    let a = c.args in
    let l = c.loop-b in
    let f = character a.seven in
    elim c.if-keeps.branch [
      | then-keeps w ↦ record {
        few = omega (arith, l.invariant.few, w.n-is, w.put-n.ensures.0);
        left = copied f l.keeping a.part.now l.b-index l.invariant.left c.loop-b-test.true (sym w.if-keeps.true ∙ c.keeps.ensures.0) w.character.ensures c.keeps.ensures.1 (omega (arith, w.n-is, w.put-n.ensures.0)) (w.out-is ∙ w.put-n.ensures.1) c.if-keeps.auto.out;
      }
      | else-keeps w ↦ record {
        few = omega (arith, l.invariant.few, w.n-is);
        left = copied f l.keeping a.part.now l.b-index l.invariant.left c.loop-b-test.true (sym w.if-keeps.false ∙ c.keeps.ensures.0) refl c.keeps.ensures.1 (omega (arith, w.n-is)) w.out-is c.if-keeps.auto.out;
      }
    ]

pub returns : goal.returns
returns c =
    let a = c.args in
    let l = c.loop-b in
    let whole = stored l.invariant.left (all_kept (character a.seven) l.keeping a.part.now l.b-index l.invariant.left c.loop-b-test.false) in
    (whole.0 ∙ length-map (kept_bytes (table_of a.code) a.clear a.seven false a.part.now) (character a.seven), whole.1)
