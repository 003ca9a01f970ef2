-- What is put to a port is that port's, and nothing else is changed. Assumes nothing.
use mathlib.Core.Path.{◌≡◌, refl}
use Rattle.ports.specs.declared.Side.{Side}
use Rattle.ports.specs.declared.Side.TheVariants.{Zero, One}
use Rattle.ports.specs.declared.Both.{Both}
use Rattle.ports.specs.declared.Port.{Port}
use Rattle.ports.specs.Sides.{of_side, put}
use Rattle.ports.specs.Ports.{Ports, port_of, with_port}

pub put_there : {A : Type 0} (side : Side) (two : Both A) (a : A) → of_side side (put side two a) ≡ a
put_there Zero two a = refl
put_there One two a = refl

-- what was there put back, and one thing put after another
pub put_back : {A : Type 0} (side : Side) (two : Both A) → put side two (of_side side two) ≡ two
put_back Zero two = refl
put_back One two = refl

pub put_over : {A : Type 0} (side : Side) (two : Both A) (a b : A) → put side (put side two a) b ≡ put side two b
put_over Zero two a b = refl
put_over One two a b = refl

-- of the ports themselves
pub port_put : (side : Side) (ports : Ports) (port : Port) → port_of side (with_port side ports port) ≡ port
port_put = put_there
