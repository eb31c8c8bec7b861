use Rattle.std.proofs.Common.{◌≡◌, refl, sym, ◌∙◌, subst}
use Rattle.rw_exchange.specs.Ports.{IsOther, SamePort, after_receiving, received_from}
use Rattle.rw_windows.proofs.Ports.{same_port}
use Rattle.rw_windows.proofs.waiting.receive_waiting.Goals as goal

pub loop-init : goal.loop-init
loop-init g c = refl

pub receive-requires : goal.receive-requires
receive-requires g c = record { other = subst (λ p. IsOther p c.args.from) (sym c.loop.invariant) c.requires.other }

pub returns-in-Some-receive-clause-some : goal.returns-in-Some-receive-clause-some
returns-in-Some-receive-clause-some g c =
    subst (λ p. c.receive.new.self ≡ after_receiving p c.args.from c.in-Some-receive.item) c.loop.invariant c.in-Some-receive.ensures.some

pub returns-in-Some-receive-clause-allowed : goal.returns-in-Some-receive-clause-allowed
returns-in-Some-receive-clause-allowed g c =
    subst (λ p. g.P.Protocol.allows (received_from p c.args.from) c.in-Some-receive.item) c.loop.invariant c.in-Some-receive.ensures.allowed

pub returns-in-Some-receive-clause-same : goal.returns-in-Some-receive-clause-same
returns-in-Some-receive-clause-same g c = subst (λ p. SamePort p c.receive.new.self) c.loop.invariant c.receive.ensures.same

pub loop-preserved-then-tries-lt-TRIES : goal.loop-preserved-then-tries-lt-TRIES
loop-preserved-then-tries-lt-TRIES g c = c.in_default.ensures.none ∙ c.loop.invariant

pub returns-then-is_deserted-clause-none : goal.returns-then-is_deserted-clause-none
returns-then-is_deserted-clause-none g c = c.is_deserted.ensures.same ∙ c.in_default.ensures.none ∙ c.loop.invariant

pub returns-then-is_deserted-clause-same : goal.returns-then-is_deserted-clause-same
returns-then-is_deserted-clause-same g c =
    same_port c.args.port.now c.is_deserted.new.self (c.is_deserted.ensures.same ∙ c.in_default.ensures.none ∙ c.loop.invariant)

pub loop-preserved : goal.loop-preserved
loop-preserved g c = c.is_deserted.ensures.same ∙ c.in_default.ensures.none ∙ c.loop.invariant
