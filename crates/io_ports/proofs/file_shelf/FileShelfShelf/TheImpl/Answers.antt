-- A shelf that tells no file promises nothing of told files.
use Rattle.std.proofs.Common.{refl}
use Rattle.io_ports.proofs.file_shelf.FileShelfShelf.TheImpl.Goals as goal

pub fetch-tells : goal.fetch-tells
fetch-tells g c =
    record {
      bound = c.ensures.bound;
      told = tt;
      failed = c.ensures.failed;
      missing = λ told. absurd told;
      seen = c.ensures.seen;
      longer = λ told. absurd told;
      files = refl;
      given = c.ensures.given;
    }
