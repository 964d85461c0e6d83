use Rattle.qm_glog.proofs.Texts.{one_list, sound_if_log, one_place}
use Rattle.qm_history.proofs.masters.queue_files_read_one_way.Goals as goal

pub returns : goal.returns
returns c = record { logs = one_list; sound = sound_if_log; place = one_place }
