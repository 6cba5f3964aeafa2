use Rattle.hv_message.proofs.RefusalLemmas.{combine_word, derive_word, filter_word, project_word, room_word}
use Rattle.hv_message.proofs.laws.refusals_have_words.Goals as goal

pub returns-clause-filter : goal.returns-clause-filter
returns-clause-filter c = λ lineage pred. filter_word lineage pred

pub returns-clause-project : goal.returns-clause-project
returns-clause-project c = λ lineage cols. project_word lineage cols

pub returns-clause-derive : goal.returns-clause-derive
returns-clause-derive c = λ lineage name expr. derive_word lineage name expr

pub returns-clause-sample : goal.returns-clause-sample
returns-clause-sample c = λ lineage. room_word lineage

pub returns-clause-combine : goal.returns-clause-combine
returns-clause-combine c = λ how left right. combine_word how left right
