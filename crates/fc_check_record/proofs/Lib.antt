mod Firsts
mod Agreeing
mod Telling
mod Entries
mod Leaving
mod Pooling
mod Deciding
