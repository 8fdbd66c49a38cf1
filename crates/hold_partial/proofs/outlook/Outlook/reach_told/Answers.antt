use Rattle.hold_partial.proofs.outlook.Outlook.reach_told.Goals as goal

pub reach_ahead-requires-clause-ahead : goal.reach_ahead-requires-clause-ahead
reach_ahead-requires-clause-ahead c = λ item there. rw c.in-Some.is at c.self.invariant.known item there
