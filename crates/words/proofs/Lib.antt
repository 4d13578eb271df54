-- What is shown of scanning.
mod Listings
