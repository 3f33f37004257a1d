-- The worked pictures.
use Rattle.std.proofs.Common.{inl, refl}
use Rattle.desk_server.specs.declared.reply.Reply.TheVariants.{Settled, Shown}
use Rattle.board_laws.specs.Example.{PicturesOfOne}

pub pictures_of_one : PicturesOfOne
pictures_of_one = record {
  settled = λ table. record {
    reply = Settled;
    gives = refl;
    pending = (refl, tt);
    is = refl;
    right = record { bookmarks = refl; right = (refl, tt) };
  };
  current = λ table. record {
    reply = Shown 1;
    gives = refl;
    pending = tt;
    is = refl;
    right = record { bookmarks = refl; right = (refl, tt) };
  };
  pending = λ table. record {
    reply = Shown 1;
    gives = refl;
    pending = tt;
    is = refl;
    right = record { bookmarks = refl; right = (tt, tt) };
  };
  peeked = λ post. record {
    reply = Shown 1;
    gives = refl;
    left = record { by = (inl refl, refl); pending = tt; jobs = λ takes. absurd takes; silent = λ _. refl; kind = refl };
  };
}
