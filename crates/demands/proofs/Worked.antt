-- 01's small examples hold: each by computation from the definitions. Assumes nothing.
use mathlib.Core.Path.{refl}
use Rattle.crc.specs.Sum.{bit_step, bit_steps, byte_step, sum_from, sum_of, carried}
use Rattle.crc.specs.Joining.{joined_of, join_all}
use Rattle.crc.proofs.Examples as sum
use Rattle.line.proofs.Examples as line
use Rattle.line.specs.Receiver.{receive_of, inside_of, after_escape_of, closed_of, stored_of, counted_of}
use Rattle.line.specs.Packing.{escaped_of}
use Rattle.field.specs.Reading.{listed_from}
use Rattle.memory.specs.Bytes.{stored, begun}
use Rattle.memory.specs.Counts.{counted_up}
use Rattle.read_only.specs.ReadOnly.{read_only, keeping, written}
use Rattle.memory.specs.Edac.{body_size, file_shown}
use Rattle.read_only.specs.Files.{file_stored}
use Rattle.memory.specs.Status.{status_written}
use Rattle.blocks.specs.Fram.{fresh_sums, fresh_from, refreshed, store_of, parts_from, range_sum, place_of}
use Rattle.blocks.specs.Cost.{how_many, range_cost}
use Rattle.fram_commands.specs.Peek.{peek_of, peek_range_of}
use Rattle.fram_commands.specs.Poke.{poke_of}
use Rattle.fram_commands.specs.Crc.{crc_of}
use Rattle.fram_commands.specs.Cost.{field_cost}
use Rattle.fram_commands.specs.ByAddress.{peek_by_address, poke_by_address, crc_by_address}
use Rattle.file_commands.specs.ReadFile.{files_shown, files_width, read_file_of}
use Rattle.file_commands.specs.WriteFile.{judge_list_of, write_file_of}
use Rattle.edac_commands.specs.WriteEdac.{write_edac_of}
use Rattle.command.specs.Diagnostic.{all_channels, channels_shown, diagnostic_of}
use Rattle.command.specs.Init.{init_of}
use Rattle.command.specs.Command.{command_of}
use Rattle.ports.specs.Ports.{answered_on, hear_of, is_open, settle_of}
use Rattle.judging.specs.Fitting.{lengths_fit, set_up_fit, step_fit}
use Rattle.judging.specs.Judging.{run_of, verdict_of, received_of, judge_of}
use Rattle.replying.specs.Replies.{sealed, reply_message, saying, said_of}
use Rattle.replying.specs.Ports.{fate_of, said_on_of}
use Rattle.commanding.specs.Commanded.{answered, commanded_of}
use Rattle.unit.specs.Steps.{set_up_of, served_of, step_of}
use Rattle.demands.specs.Worked.{WorkedExamples}

pub the_worked_examples_hold : WorkedExamples
unfolding step_of set_up_of set_up_fit step_fit lengths_fit fresh_sums fresh_from judge_of received_of hear_of answered_on is_open settle_of fate_of said_on_of receive_of inside_of after_escape_of closed_of stored_of counted_of verdict_of run_of served_of counted_up commanded_of answered said_of saying sealed reply_message command_of init_of status_written peek_by_address peek_of peek_range_of poke_by_address poke_of store_of refreshed crc_by_address crc_of range_sum parts_from join_all joined_of carried field_cost range_cost how_many place_of escaped_of begun sum_of sum_from byte_step bit_steps bit_step read_file_of files_shown files_width file_shown body_size judge_list_of write_file_of write_edac_of listed_from file_stored written keeping read_only stored diagnostic_of all_channels channels_shown
the_worked_examples_hold = record {
  p1 = sum.p1;
  p2 = sum.p2;
  p3 = sum.p3;
  p4 = sum.p4;
  p5 = sum.p5;
  p6 = (refl, refl, refl, refl, refl, refl);
  p7 = ((line.p7).0, (line.p7).1, (line.p7).2, (refl, refl, refl, refl, refl, refl), refl, (refl, refl, refl, refl, refl, refl), refl, (refl, refl, refl, refl, refl, refl));
  p8 = sum.p8;
  p9 = ((refl, refl, refl, refl, refl, refl), (refl, refl, refl, refl, refl, refl), (refl, refl, refl, refl, refl, refl));
  p10 = (refl, refl, refl, refl, refl, refl);
  p11 = (refl, refl, refl, refl, refl, refl);
  p12 = (refl, refl, refl, refl, refl, refl);
  t01_addresses = ((refl, refl, refl, refl), (refl, refl, refl));
  t01_thrown_away = (refl, refl, refl, refl, refl);
  t01_other_port = (refl, refl);
  t01_built_before = (refl, refl, refl);
  t01_lost = (refl, refl, refl, refl, refl, refl, refl);
  t01_lost_nack = (refl, refl, refl, refl);
  t01_between = (refl, refl, refl);
  t02 = ((refl, refl, refl, refl, refl, refl), (refl, refl, refl, refl, refl, refl));
  t06 = (refl, (refl, refl, refl, refl, refl, refl), (refl, refl, refl, refl, refl, refl), (refl, refl, refl, refl, refl, refl));
  t07 = (refl, refl, refl, refl, refl);
  t13 = (refl, refl, refl);
}
