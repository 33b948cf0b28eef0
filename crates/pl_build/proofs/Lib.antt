mod Lists
mod GroupLemmas
mod PathLemmas
