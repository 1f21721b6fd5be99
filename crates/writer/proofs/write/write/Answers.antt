-- What is written reads back, at each return. Assumes nothing.
use Rattle.writer.proofs.Back.{round_trip}
use Rattle.writer.proofs.write.write.Goals as goal

pub returns-then-lines-gt-MOST_LINES-clause-back : goal.returns-then-lines-gt-MOST_LINES-clause-back
returns-then-lines-gt-MOST_LINES-clause-back c = round_trip

pub returns-in_err-list-clause-back : goal.returns-in_err-list-clause-back
returns-in_err-list-clause-back c = round_trip

pub returns-then-not-holds-clause-back : goal.returns-then-not-holds-clause-back
returns-then-not-holds-clause-back c = round_trip

pub returns-clause-back : goal.returns-clause-back
returns-clause-back c = round_trip
