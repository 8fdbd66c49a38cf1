use Rattle.editions.proofs.answers.answer_there.Goals as goal

pub returns-in-Set : goal.returns-in-Set
returns-in-Set c = rw c.in-Set.is (c.answer_set.ensures c.args.a.now)

pub returns-in-Take : goal.returns-in-Take
returns-in-Take c = rw c.in-Take.is (c.answer_take.ensures c.args.a.now c.requires.task)

pub returns-in-Install : goal.returns-in-Install
returns-in-Install c = rw c.in-Install.is (c.answer_install.ensures c.args.a.now)

pub returns-in-Reopen : goal.returns-in-Reopen
returns-in-Reopen c = rw c.in-Reopen.is (c.answer_reopen.ensures c.args.a.now)

pub returns-in-Depart : goal.returns-in-Depart
returns-in-Depart c = rw c.in-Depart.is (c.answer_depart.ensures c.args.a.now)
