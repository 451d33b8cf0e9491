mod CommandLemmas
mod FaultLemmas
mod Numbers
