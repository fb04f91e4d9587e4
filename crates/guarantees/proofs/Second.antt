-- The owner's second property holds. Assumes nothing.
use Rattle.cyclic.specs.Check.{method5, method6}
use Rattle.cyclic.proofs.Methods.{width_5, width_6}
use Rattle.guarantees.specs.Second.{SecondProperty}
use Rattle.guarantees.proofs.Written.Block.{written_reads_back}
use Rattle.guarantees.proofs.Taken.Block.{read_writes_back}
use Rattle.guarantees.proofs.Taken.Questions.{accepted_is_taken}
use Rattle.guarantees.proofs.Frames.Taken as frames
use Rattle.guarantees.proofs.Frames.RoundTrip.{frame_reads_back, frame_writes_back}

pub second_property : SecondProperty
second_property =
    record {
      written_reads_back = written_reads_back;
      read_writes_back = read_writes_back;
      accepted_is_taken = accepted_is_taken;
      accepted_is_taken_5 = frames.accepted_is_taken method5;
      accepted_is_taken_6 = frames.accepted_is_taken method6;
      frame_reads_back_5 = frame_reads_back method5 16 width_5;
      frame_reads_back_6 = frame_reads_back method6 32 width_6;
      frame_writes_back_5 = frame_writes_back method5 16 width_5;
      frame_writes_back_6 = frame_writes_back method6 32 width_6;
    }
