use Rattle.std.proofs.Common.{List, ◌++◌, ◌∷◌, [], subst}
use Rattle.qm_history.specs.Chest.{turns_kept}
use Rattle.qm_cluster.specs.declared.noted.Noted.{Noted}
use Rattle.qm_cluster.specs.Sharing.{Asks, CallOfNode, HasStood, MayBegin, StandsFor, note_of}
use Rattle.qm_cluster.proofs.Asked.{asks_it, stood_for}
use Rattle.qm_cluster.proofs.waiting.AskingTaskShared.work.Goals as goal

pub returns-clause-does : goal.returns-clause-does
returns-clause-does g c =
    subst (λ (a : CallOfNode). Asks g.S.Serve.meaning.tells (MayBegin g.S.Serve.meaning g.J.Begins.began) turns_kept a
    (g.S.Serve.meaning.turns c.args.shared.now.manager) (g.S.Serve.meaning.turns c.serve.new.self) c.serve.result)
    c.self.view_is
    (asks_it g.S.Serve.meaning c.self.inside.node c.self.inside.now c.self.inside.call c.args.shared.now.manager c.serve.new.self c.serve.result c.serve.ensures g.J.Begins.began
    c.requires.0 c.requires.1)

pub returns-clause-told : goal.returns-clause-told
returns-clause-told g c =
    subst (λ (a : CallOfNode). (told : List Noted)
    → StandsFor g.S.Serve.meaning.tells (MayBegin g.S.Serve.meaning g.J.Begins.began) g.S.Serve.meaning.turns (HasStood g.S.Serve.meaning g.J.Begins.began) c.args.shared.now.manager told
    → StandsFor g.S.Serve.meaning.tells (MayBegin g.S.Serve.meaning g.J.Begins.began) g.S.Serve.meaning.turns (HasStood g.S.Serve.meaning g.J.Begins.began) c.serve.new.self
    (told ++ note_of a.call (g.S.Serve.meaning.turns c.args.shared.now.manager) (g.S.Serve.meaning.turns c.serve.new.self) c.serve.result ∷ []))
    c.self.view_is
    (λ told stands. stood_for g.S.Serve.meaning c.self.inside.node c.self.inside.now c.self.inside.call c.args.shared.now.manager c.serve.new.self c.serve.result c.serve.ensures
    g.J.Begins.began told stands)
