use Rattle.qm_bytes.proofs.Fields.{truth_reader, name_reader, optional_reader, list_reader, mark_reader, long_bytes_reader, file_name_reader, set_reader, moment_reader}
use Rattle.qm_bytes.proofs.laws.fields_are_read_as_spelled.Goals as goal

pub returns : goal.returns
returns c = record {
  truths = truth_reader;
  names = name_reader;
  optional_names = optional_reader name_reader;
  lists_of_names = list_reader name_reader;
  marks = mark_reader;
  long_bytes = long_bytes_reader;
  file_names = file_name_reader;
  sets = set_reader;
  moments = moment_reader;
  optional_moments = optional_reader moment_reader;
}
