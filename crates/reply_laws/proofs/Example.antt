-- The worked answers.
use Rattle.std.proofs.Common.{[], None, append-nil, inl, refl, sym}
use Rattle.schedule.specs.declared.fault.EditFault.TheVariants.{NoSuchBookmark}
use Rattle.schedule.specs.Plan.{opening}
use Rattle.revision_jobs.specs.Posted.{PostView}
use Rattle.dependency_book.specs.BookState.{BookState, opened}
use Rattle.dependency_book.proofs.Shared.Opened.{opened_held}
use Rattle.desk_script.specs.Asks.{Obey}
use Rattle.desk_script.specs.declared.command.Command.TheVariants as command
use Rattle.desk_server.specs.Answer.{only, refused}
use Rattle.desk_server.specs.Desks.{AnswersAt, Learned, Standing, standing}
use Rattle.desk_server.specs.Faults.{of_edit}
use Rattle.desk_server.specs.Reply.{settled_text, working_text}
use Rattle.desk_server.specs.declared.reply.Reply.TheVariants as reply
use Rattle.reply_laws.specs.Example.{FirstAnswersAreGiven, listed_first}

-- the desk of the opening document
abbrev first : PostView → BookState
first p = opened p.table 0

abbrev here : PostView → Standing
here p = standing p (first p)

-- no call was made
learned_none : (p : PostView) → Learned p p (first p) (first p)
learned_none p = record {
  first = None;
  calls = record { calls = []; comes = refl; gave = sym (append-nil p.answers); first = refl; stops = tt };
  known = λ need value is. is;
  right = (opened_held p.table 0).right;
}

works : (p : PostView) → AnswersAt (Obey command.Work, only (opening 0) working_text) (here p) (here p)
works p = record {
  reply = reply.Working;
  gives = refl;
  left = record { by = learned_none p; pending = tt; jobs = λ takes. absurd takes; silent = λ _. refl; kind = refl };
}

settles : (p : PostView) → AnswersAt (Obey command.Settle, only (opening 0) settled_text) (here p) (here p)
settles p = record {
  reply = reply.Settled;
  gives = refl;
  left = record {
    by = (learned_none p, tt);
    pending = tt;
    jobs = λ _. record { later = []; gave = sym (append-nil p.answers); leaves = refl; prompt = λ _. tt };
    silent = λ _. refl;
    kind = refl;
  };
}

lists : (p : PostView) → AnswersAt (Obey command.List, only (opening 0) listed_first) (here p) (here p)
lists p = record {
  reply = reply.Listed;
  gives = refl;
  left = record { by = (refl, refl); pending = tt; jobs = λ takes. absurd takes; silent = λ _. refl; kind = refl };
}

shows : (p : PostView)
    → AnswersAt (Obey (command.Show 1), refused (opening 0) (of_edit NoSuchBookmark)) (here p) (here p)
shows p = record {
  reply = reply.Shown 1;
  gives = refl;
  left = record {
    by = (inl refl, inl (refl, refl));
    pending = tt;
    jobs = λ _. record {
      later = [];
      gave = sym (append-nil p.answers);
      leaves = λ pending. absurd (cc pending.there);
      prompt = λ _. tt;
    };
    silent = λ _. refl;
    kind = refl;
  };
}

pub first_given : FirstAnswersAreGiven
first_given p = record {
  before = p;
  after = p;
  kind = refl;
  over = record {
    first = first p;
    opens = refl;
    right = (opened_held p.table 0).right;
    last = first p;
    each = (here p, works p, (here p, settles p, (here p, lists p, (here p, shows p, refl))));
  };
}
