-- `streaming::quietly` meets its contract: what listening on the port takes. Assumes nothing.
use Rattle.ports.specs.Sides.{both}
use Rattle.streaming.proofs.Streaming.{those_of_a_port}
use Rattle.streaming.proofs.quietly.Goals as goal

pub returns : goal.returns
returns c =
    let a = c.args in
    those_of_a_port a.unit a.port a.bytes.now (both a.message0.now a.message1.now) _ _ c.listen_on-got.result (both _ _) _
    c.from-side.ensures c.of-was.ensures c.listen_on-got.ensures c.with-ports.ensures
